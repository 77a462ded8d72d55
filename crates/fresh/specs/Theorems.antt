-- What `fresh` leaves is a fresh state, and consistent; when it gives 1, 13, 5 and 0; and that it allows one answer only.
use Rattle.std.specs.Prelude.{ℕ, ◌≡◌, Bool, List, drop, Result}
use Rattle.std.proofs.Common.{arith}
use Rattle.std.proofs.Math.Path.{refl}
use Rattle.std.proofs.Math.Bool.{true, false}
use Rattle.refusal.specs.declared.Refusal.{Refusal}
use Rattle.refusal.specs.Forms.{Refused, outcome}
use Rattle.refusal.proofs.Theorems.{outcome-filled-one}
use Rattle.model.specs.Cells.{is_kind}
use Rattle.model.specs.Update.{few_ids, fresh}
use Rattle.model.proofs.Laws.Tests.{T_true}
use Rattle.model.proofs.Theorems.Kinds.{consistent-fresh-kind}
use Rattle.layout.specs.State.{state_len, decode}
use Rattle.layout.specs.Points.{long_enough, consistent_words}
use Rattle.layout.proofs.Theorems.DecodeEncode.{decode-longer}
use Rattle.layout.proofs.Theorems.Canonical.{image-consistent}
use Rattle.fresh.specs.Answer.{fresh_of, Exactly}
use Rattle.fresh.specs.Laws.Image.{answered}

module _ (w : List ℕ) (first kind : ℕ) where
  -- Words that are accepted are consistent afterwards, and stand for the fresh state.
  pub fresh-consistent : (fresh_of w first kind).0.number ≡ 0 → (consistent_words (fresh_of w first kind).1 ≡ true) × (decode (fresh_of w first kind).1 ≡ fresh first kind)
  unfolding fresh_of
  fresh-consistent = go (long_enough w) (is_kind kind) (few_ids first) refl
    where
      go : (l k f : Bool) → is_kind kind ≡ k → (answered w first kind l k f).0.number ≡ 0 → (consistent_words (answered w first kind l k f).1 ≡ true) × (decode (answered w first kind l k f).1 ≡ fresh first kind)
      go false k f d e = absurd (omega arith)
      go true false f d e = absurd (omega arith)
      go true true true d e = absurd (omega arith)
      go true true false d e =
          let c = consistent-fresh-kind first kind (T_true d) in
          (image-consistent (fresh first kind) (drop state_len w) c, decode-longer (fresh first kind) c (drop state_len w))

  -- The refusal of `fresh`.
  pub fresh-exactly : Exactly (fresh_of w first kind).0 (long_enough w) (is_kind kind) (few_ids first)
  unfolding fresh_of
  fresh-exactly = go (long_enough w) (is_kind kind) (few_ids first)
    where
      go : (l k f : Bool) → Exactly (answered w first kind l k f).0 l k f
      go false k f = record { one = refl; thirteen = refl; five = refl; done = refl; at = refl; axis = refl }
      go true false f = record { one = refl; thirteen = refl; five = refl; done = refl; at = refl; axis = refl }
      go true true true = record { one = refl; thirteen = refl; five = refl; done = refl; at = refl; axis = refl }
      go true true false = record { one = refl; thirteen = refl; five = refl; done = refl; at = refl; axis = refl }

  -- A refusal leaves the words as found.
  pub fresh_kept : ((fresh_of w first kind).0.number ≡ 0 → ⊥) → (fresh_of w first kind).1 ≡ w
  unfolding fresh_of
  fresh_kept = go (long_enough w) (is_kind kind) (few_ids first)
    where
      go : (l k f : Bool) → ((answered w first kind l k f).0.number ≡ 0 → ⊥) → (answered w first kind l k f).1 ≡ w
      go false k f h = refl
      go true false f h = refl
      go true true true h = refl
      go true true false h = absurd (h refl)

-- Any two answers that the promise of `fresh` allows are equal.
pub fresh-one : (w : List ℕ) (first kind : ℕ) (p q : Result (Unit {0}) Refusal × List ℕ)
    → ◌≡◌ {A = Refused × List ℕ} (outcome p.0, p.1) (fresh_of w first kind)
    → ◌≡◌ {A = Refused × List ℕ} (outcome q.0, q.1) (fresh_of w first kind) → p ≡ q
fresh-one w first kind p q e f = outcome-filled-one p q (fresh_of w first kind) e f
