-- Demand 3 over words: runs of calls that are alike on a grid show the same of it.
use Rattle.std.specs.Prelude.{ℕ, ◌≡◌, refl, List, T}
use Rattle.std.proofs.Common.{sym, ap, subst}
use Rattle.model.specs.Cells.{is_kind}
use Rattle.model.specs.Update.{State, touch_of, fresh, update}
use Rattle.model.specs.Consistent.{kind_known}
use Rattle.model.specs.Runs.{Alike, SameOn}
use Rattle.model.proofs.Theorems.Kinds.{isolation-kind}
use Rattle.model.proofs.Laws.Tests.{T_true, and-fst}
use Rattle.layout.specs.State.{decode}
use Rattle.layout.proofs.Laws.Orderly.{orderly-out}
use Rattle.batch.specs.Words.{batch_of}
use Rattle.fresh.specs.Answer.{fresh_of}
use Rattle.fresh.specs.Theorems.{fresh-consistent}
use Rattle.yard.specs.Update.{update_of}
use Rattle.yard.specs.Theorems.Calls.{call-done, update-kept}
use Rattle.yard.specs.Runs.{AlikeWords, start, next, refused, refused'}

-- Runs that end in equal states end alike.
same_ends : (grid : ℕ) (s s' t t' : State) → s ≡ s' → t ≡ t' → Alike grid s t → Alike grid s' t'
same_ends grid s s' t t' e f r = subst (λ (u : State). Alike grid u t') e (subst (λ (u : State). Alike grid s u) f r)

-- Words that are made fresh have a known kind.
fresh-known : (w : List ℕ) (first kind : ℕ) → (fresh_of w first kind).0.number ≡ 0 → T (is_kind kind)
fresh-known w first kind e =
    let c = fresh-consistent w first kind e in
    subst (λ (s : State). T (kind_known s)) c.1 (and-fst (kind_known (decode (fresh_of w first kind).1)) _ (T_true (orderly-out (fresh_of w first kind).1 c.0).yard))

-- The states of two runs of calls are those of two runs of the model.
pub alike-words : (grid : ℕ) {w v : List ℕ} → AlikeWords grid w v → Alike grid (decode w) (decode v)
alike-words grid (start w v first first' kind e f) =
    same_ends grid (fresh first kind) (decode (fresh_of w first kind).1) (fresh first' kind) (decode (fresh_of v first' kind).1)
    (sym (fresh-consistent w first kind e).1) (sym (fresh-consistent v first' kind f).1) (Rattle.model.specs.Runs.Alike.start first first' kind (fresh-known w first kind e))
alike-words grid (next {w} {v} b removals moves d removals' moves' r e f q) =
    let x = call-done w b removals moves e in
    let y = call-done v d removals' moves' f in
    same_ends grid (update (decode w) (batch_of b removals moves)).1 (decode (update_of w b removals moves).1) (update (decode v) (batch_of d removals' moves')).1 (decode (update_of v d removals' moves').1)
    (sym x.stands) (sym y.stands)
    (Rattle.model.specs.Runs.Alike.next (batch_of b removals moves) (batch_of d removals' moves') (alike-words grid r) x.number y.number q)
alike-words grid (refused {w} {v} b removals moves r f) =
    same_ends grid (decode w) (decode (update_of w b removals moves).1) (decode v) (decode v) (ap decode (sym (update-kept w b removals moves f))) refl (alike-words grid r)
alike-words grid (refused' {w} {v} d removals moves r f) =
    same_ends grid (decode w) (decode w) (decode v) (decode (update_of v d removals moves).1) refl (ap decode (sym (update-kept v d removals moves f))) (alike-words grid r)

-- What the two states show of the grid is equal, the ids by a renaming that keeps their order.
pub isolation-words : (grid : ℕ) {w v : List ℕ} → AlikeWords grid w v → SameOn (touch_of (decode w)) grid (decode w) (decode v)
isolation-words grid r = isolation-kind grid (alike-words grid r)
