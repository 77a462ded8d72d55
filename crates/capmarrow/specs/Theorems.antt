-- The calls for C allow one answer each: the number given back and every slice that is lent to be written are fixed by one equation.
use Rattle.std.specs.Prelude.{ℕ, ◌≡◌, List}
use Rattle.told.specs.Laws.One.{one_answer}

-- Of a call that writes one slice, any two answers that its promise allows are equal.
pub call-one : (a r s : ℕ × List ℕ) → r ≡ a → s ≡ a → r ≡ s
call-one a r s = one_answer r s a

-- The same of a call that fills a slice for an answer too.
pub filling-one : (a r s : (ℕ × List ℕ) × List ℕ) → r ≡ a → s ≡ a → r ≡ s
filling-one a r s = one_answer r s a
