-- The kind that is told is one of the three.
use Rattle.std.specs.Prelude.{ℕ, ◌≡◌, refl, Bool, true, false, cond, List, eqb}
use Rattle.std.proofs.Common.{sym, ap, ◌∙◌, eqb→eq}
use Rattle.component.specs.Laws.Tests.{both}
use Rattle.model.specs.Cells.{is_kind}
use Rattle.model.specs.Update.{touch_of}
use Rattle.model.specs.Consistent.{consistent_by, kind_known}
use Rattle.model.proofs.Laws.Tests.{neqb→ne, T_true, T_false}
use Rattle.layout.specs.State.{decode}
use Rattle.layout.proofs.Laws.Orderly.{orderly-out}
use Rattle.told.specs.Told.{Beside, values, needed, place, Told, done, refused}
use Rattle.consistent.specs.Answer.{state_refusal}
use Rattle.ask.specs.Answers.{kind_of}
use Rattle.consistent.specs.Laws.Sure.{Sure, sure-of}

-- The number that is given, if one is.
given : Beside ℕ → ℕ
given (values k) = k
given (needed k) = k
given (place at axis) = at

pub kind-three : (w : List ℕ) (k : ℕ) → done k ≡ kind_of w → is_kind k ≡ true
unfolding kind_of given
kind-three w k e = go (eqb (state_refusal w).number 0) refl e
  where
    known : Sure w → is_kind (decode w).kind ≡ true
    known sure = (both (kind_known (decode w)) (consistent_by (touch_of (decode w)) (decode w)) (orderly-out w sure.good).yard).0

    go : (b : Bool) → eqb (state_refusal w).number 0 ≡ b → done k ≡ cond b (done (decode w).kind) (refused (state_refusal w)) → is_kind k ≡ true
    go true p f = ap (λ (t : Told ℕ). is_kind (given t.beside)) f ∙ known (sure-of w (eqb→eq (state_refusal w).number 0 (T_true p)))
    go false p f = absurd (neqb→ne (state_refusal w).number 0 (T_false p) (sym (ap (λ (t : Told ℕ). t.number) f)))
