-- A reader's turns.
use Rattle.std.specs.Prelude.{Option, Ok, Err, Some, None, ltb}
use Rattle.settings.specs.Answers.{Reading}
use Rattle.settings.specs.declared.kinds.ReadError.TheVariants as reading_error
use Prim.Native.Nat.{ℕ, ◌+◌, ◌<◌, ◌≤◌}
use native.Mathlib.Omega.{arith}
use mathlib.Core.Path.{◌≡◌, refl, sym, ap, ◌∙◌}
use mathlib.Core.Bool.{Bool, true, false, cond}
use mathlib.Core.List.{List, []}
use borrow.Author.Tests.{eq-eqb, ne_eqb, le-ltb}
use lib.ListN.{length, take, drop}
use lib.Dec.{eqb}
use Rattle.settings.specs.declared.kinds.Fault.{Fault}
use Rattle.settings.specs.declared.kinds.Settings.{Settings}
use Rattle.settings.specs.Records.{size_of, grid_of, settings_of, check_of}
use Rattle.settings.specs.Parsing.{Records, whole, faulty, after, records_of}
use Rattle.settings.specs.Reading.{last_of, shown, tell_with, tell}
use Rattle.settings.proofs.Laws.Records.{fine-parts, size-some, grid-first}
use Rattle.settings.proofs.Laws.Parsing.{from, from-none, from-bad, from_more}
use Rattle.settings.proofs.Parts.{part, part_length, part-drop, part-all}

after-held : (g : ℕ) (h r : List ℕ) (m : Records) → tell_with g h (after r m) ≡ tell_with g (cond (eqb (grid_of r) g) r h) m
unfolding last_of
after-held g h r (whole rs) = refl
after-held g h r (faulty f p) = refl

last_none : (g : ℕ) (h : List ℕ) → last_of g h [] ≡ h
unfolding last_of
last_none g h = refl

-- What is held of the last record of the grid so far; of none, which has no bytes, nothing.
abbrev pub seen : List ℕ → Option Settings
seen r = cond (ltb (length r) 12) None (Some (settings_of r))

module _ (two : Bool) (g : ℕ) (b : List ℕ) where
  -- What is still to be told where h is the last record so far.
  abbrev pub left : ℕ → List ℕ → Reading
  left at h = tell_with g h (from two at (part b at (length b)))

  pub left-start : left 0 [] ≡ tell g (records_of two b)
  left-start = ap (λ (t : List ℕ). tell_with g [] (from two 0 t)) (part-all b)

  -- A bad record is told.
  pub left-bad : (at : ℕ) (h : List ℕ) {f : Fault} → at < length b → check_of two (part b at (length b)) ≡ Err f → left at h ≡ Err (reading_error.Faulty f at)
  left-bad at h q e =
      let l = part_length b at (length b) (omega arith) (omega arith) in
      ap (tell_with g h) (from-bad two at (part b at (length b)) (omega arith) e)

  -- A record that is fine is within the bytes.
  pub fits : (at k : ℕ) → at < length b → check_of two (part b at (length b)) ≡ Ok tt → k ≡ size_of (part b at (length b)) → (12 ≤ k) × (at + k ≤ length b) × (12 ≤ length (part b at (length b)))
  fits at k h e s =
      let w = part b at (length b) in
      let l = part_length b at (length b) (omega arith) (omega arith) in
      let p = fine-parts two w e in
      let n = p.enough in
      let q = size-some w p.marked in
      (omega arith, omega arith, omega arith)

  turn : (at k : ℕ) (h : List ℕ) → at < length b → check_of two (part b at (length b)) ≡ Ok tt → k ≡ size_of (part b at (length b))
      → left at h ≡ tell_with g (cond (eqb (grid_of (part b at (length b))) g) (take k (part b at (length b))) h) (from two (at + k) (part b (at + k) (length b)))
  turn at k c h e s =
      let w = part b at (length b) in
      let q = fits at k h e s in
      let l = part_length b at (length b) (omega arith) (omega arith) in
      let r = take k w in
      let d : grid_of w ≡ grid_of r = grid-first w k q.0 (omega arith) in
      ap (tell_with g c) (from_more two at w (omega arith) e ∙ ap (λ (j : ℕ). after (take j w) (from two (at + j) (drop j w))) (sym s))
      ∙ (λ j. tell_with g c (after r (from two (at + k) (part-drop b at (length b) k j))))
      ∙ after-held g c r (from two (at + k) (part b (at + k) (length b)))
      ∙ ap (λ (i : ℕ). tell_with g (cond (eqb i g) r c) (from two (at + k) (part b (at + k) (length b)))) (sym d)

  -- A record of the grid is the last so far.
  pub left-held : (at k : ℕ) (h : List ℕ) → at < length b → check_of two (part b at (length b)) ≡ Ok tt → k ≡ size_of (part b at (length b))
      → grid_of (part b at (length b)) ≡ g → left at h ≡ left (at + k) (take k (part b at (length b)))
  left-held at k c h e s q = turn at k c h e s ∙ simp (eq-eqb _ _ q)

  -- A record of another grid changes nothing.
  pub left_other : (at k : ℕ) (h : List ℕ) → at < length b → check_of two (part b at (length b)) ≡ Ok tt → k ≡ size_of (part b at (length b))
      → (grid_of (part b at (length b)) ≡ g → ⊥) → left at h ≡ left (at + k) h
  left_other at k c h e s q = turn at k c h e s ∙ simp (ne_eqb _ _ q)

  -- Behind the last byte the record that holds is told.
  pub left_end : (at : ℕ) (h : List ℕ) → at ≤ length b → length b ≤ at → left at h ≡ shown h
  left_end at h q k =
      let l = part_length b at (length b) q (omega arith) in
      ap (tell_with g h) (from-none two at (part b at (length b)) (omega arith)) ∙ ap shown (last_none g h)

seen-by : (r : List ℕ) (t : Bool) → ◌≡◌ {A = Reading} (Ok (cond t None (Some (settings_of r)))) (cond t (Ok None) (Ok (Some (settings_of r))))
seen-by r true = refl
seen-by r false = refl

-- What is held is what is told.
pub told-seen : (r : List ℕ) → ◌≡◌ {A = Reading} (Ok (seen r)) (shown r)
told-seen r = seen-by r (ltb (length r) 12)

-- Of a record with 12 bytes or more its settings are held.
pub seen-found : (r : List ℕ) → 12 ≤ length r → Some (settings_of r) ≡ seen r
seen-found r h = simp (le-ltb _ _ h)
