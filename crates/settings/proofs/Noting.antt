-- The marks of whole records, noted one record at a time.
use Prim.Native.Nat.{ℕ, suc, ◌+◌, ◌-◌, ◌<◌, ◌≤◌}
use native.Mathlib.Omega.{arith}
use mathlib.Core.Path.{◌≡◌, refl, sym, ap, ◌∙◌, subst}
use mathlib.Core.Bool.{cond}
use mathlib.Core.List.{List}
use lib.ListN.{length, replicate}
use lib.Dec.{eqb}
use Rattle.settings.specs.Records.{size_of, grid_of}
use Rattle.settings.specs.Table.{mark_of, noted, Known}
use Rattle.settings.specs.Whole.{Whole}
use Rattle.settings.specs.Keeping.{joined}
use Rattle.settings.proofs.Laws.Marks.{mark-more, mark-end}
use Rattle.settings.proofs.Laws.Table.{known-zeros, known_same}
use Rattle.settings.proofs.Gathering.{Front, front, no-records}
use Rattle.settings.proofs.Parts.{part, part-all, part_length, part-drop}

-- What is still to be noted of the bytes from at on, where t knows the marks so far.
pub record Noting (b : List ℕ) (at : ℕ) (t : List ℕ) (rs : List (List ℕ)) : Type 0 where
  pub todo : List (List ℕ)
  pub whole : Whole todo (part b at (length b))
  pub marks : ℕ → ℕ
  pub known : Known marks t
  pub same : (g : ℕ) → mark_of g (marks g) todo ≡ mark_of g 0 rs

-- At first nothing is noted.
pub noting-start : (b t : List ℕ) (rs : List (List ℕ)) → t ≡ replicate (length t) 0 → Whole rs b → Noting b 0 t rs
noting-start b t rs e w =
    record {
      todo = rs;
      whole = subst (Whole rs) (sym (part-all b)) w;
      marks = λ g. 0;
      known = subst (Known (λ g. 0)) (sym e) (known-zeros (λ g. 0) (length t));
      same = λ g. refl;
    }

module _ {b : List ℕ} {at : ℕ} {t : List ℕ} {rs : List (List ℕ)} (l : Noting b at t rs) (here : at < length b) where
  place : Front l.todo (part b at (length b))
  place = let e = part_length b at (length b) (omega arith) (omega arith) in front l.whole (omega arith)

  -- The record at the place lies within the bytes.
  pub noted-within : (k : ℕ) → k ≡ size_of (part b at (length b)) → (12 ≤ k) × (at + k ≤ length b) × (12 ≤ length (part b at (length b)))
  noted-within k s =
      let e = part_length b at (length b) (omega arith) (omega arith) in
      let f = place in
      let m = f.long in
      let n = f.within in
      (omega arith, omega arith, omega arith)

  -- Its mark is noted.
  pub noting-more : (k g : ℕ) {u : List ℕ} → k ≡ size_of (part b at (length b)) → g ≡ grid_of (part b at (length b))
      → ((f : ℕ → ℕ) → Known f t → Known (noted g (length b - (at + k) + 1) f) u) → Noting b (at + k) u rs
  noting-more k g {u} e d n =
      let f = place in
      let m = length b - (at + k) + 1 in
      let c = noted-within k e in
      let w : Whole f.others (part b (at + k) (length b)) =
      subst (Whole f.others) (part-drop b at (length b) (size_of (part b at (length b))) ∙ ap (λ (j : ℕ). part b (at + j) (length b)) (sym e)) f.behind in
      let q = ap length w.same in
      let r = part_length b (at + k) (length b) c.1 (omega arith) in
      let v : m ≡ suc (length (joined f.others)) = omega arith in
      record {
        todo = f.others;
        whole = w;
        marks = noted g m l.marks;
        known = n l.marks l.known;
        same = λ x.
            (λ j. mark_of x (cond (eqb ((d ∙ f.grid) j) x) (v j) (l.marks x)) f.others)
            ∙ sym (mark-more x (l.marks x) f.first f.others)
            ∙ ap (mark_of x (l.marks x)) (sym f.same)
            ∙ l.same x;
      }

-- At the end all is noted.
pub noting-end : {b : List ℕ} {at : ℕ} {t : List ℕ} {rs : List (List ℕ)} → Noting b at t rs → at ≤ length b → length b ≤ at → Known (λ g. mark_of g 0 rs) t
noting-end {b} {at} {t} {rs} l h j =
    let e = part_length b at (length b) h (omega arith) in
    let z = no-records l.whole (omega arith) in
    known_same (λ g. sym (mark-end g (l.marks g)) ∙ ap (mark_of g (l.marks g)) (sym z) ∙ l.same g) l.known
