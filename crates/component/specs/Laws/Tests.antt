-- Facts on tests.
use Rattle.std.specs.Prelude.{◌≡◌, ℕ, ◌<◌, ◌≤◌, Bool, true, false, not, ◌&&◌, ◌||◌, T, ◌⊎◌, nat_le, nat_lt, refl}
use Rattle.std.proofs.Common.{sym, ◌∙◌, subst, inl, inr, ⊎_elim, ltb-true, ltb-false, lt-ltb, le-ltb, le-leb}
use Rattle.std.proofs.lemmas.Bool.{lt-leb}

pub and-fst : (a b : Bool) → T (a && b) → T a
and-fst true b t = tt
and-fst false b t = t

pub and-snd : (a b : Bool) → T (a && b) → T b
and-snd true b t = t
and-snd false b t = absurd t

pub and_both : (a b : Bool) → T a → T b → T (a && b)
and_both true b s t = t
and_both false b s t = s

pub or_cases : (a b : Bool) → T (a || b) → T a ⊎ T b
or_cases true b t = inl tt
or_cases false b t = inr t

pub or_left : (a b : Bool) → T a → T (a || b)
or_left true b t = tt
or_left false b t = absurd t

pub or_right : (a b : Bool) → T b → T (a || b)
or_right true b t = tt
or_right false b t = t

pub or-not : (a b : Bool) → T (not (a || b)) → T (not a) × T (not b)
or-not true b t = absurd t
or-not false b t = (tt, t)

pub and-not : (a b : Bool) → T a → T (not (a && b)) → T (not b)
and-not true b s t = t
and-not false b s t = absurd s

pub not-and : (a b : Bool) → (a && b) ≡ false → (a ≡ false) ⊎ (b ≡ false)
not-and true b e = inr e
not-and false b e = inl refl

pub and_in : (a b : Bool) → a ≡ true → b ≡ true → (a && b) ≡ true
and_in a b e f = λ i. e i && f i

pub both : (a b : Bool) → (a && b) ≡ true → (a ≡ true) × (b ≡ true)
both true b e = (refl, e)
both false b e = absurd (subst T (sym e) tt)

pub le-or-lt : (a b : ℕ) → (a ≤ b) ⊎ (b < a)
le-or-lt a b = split (nat_lt b a) refl
  where
    split : (t : Bool) → nat_lt b a ≡ t → (a ≤ b) ⊎ (b < a)
    split true e = inr (ltb-true b a e)
    split false e = inl (ltb-false b a e)

-- Two tests of order agree where each outcome of the first gives that of the second.
pub ltb-same : (a b c d : ℕ) → (a < b → c < d) → (b ≤ a → d ≤ c) → nat_lt a b ≡ nat_lt c d
ltb-same a b c d f g = ⊎_elim (λ p. le-ltb a b p ∙ sym (le-ltb c d (g p))) (λ q. lt-ltb a b q ∙ sym (lt-ltb c d (f q))) (le-or-lt b a)

pub leb-same : (a b c d : ℕ) → (a ≤ b → c ≤ d) → (b < a → d < c) → nat_le a b ≡ nat_le c d
leb-same a b c d f g = ⊎_elim (λ p. le-leb a b p ∙ sym (le-leb c d (f p))) (λ q. lt-leb a b q ∙ sym (lt-leb c d (g q))) (le-or-lt a b)
