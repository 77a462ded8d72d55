-- One record: its length by its mark, and what holds of one that is fine.
use Rattle.std.specs.Prelude.{Ok}
use Rattle.std.specs.Prelude.{ℕ, ◌<◌, ◌≤◌, ◌≡◌, refl, Bool, true, false, cond, not, ◌&&◌, List, ◌++◌, length, get_or, take, drop, ltb, eqb}
use Rattle.std.proofs.Common.{arith, sym, ap, ◌∙◌, ltb-false, le-ltb, ne_eqb, length-append, length-drop, take-append-drop, length-take-le, take_at}
use Rattle.std.proofs.lemmas.Bool.{eqb-false}
use Rattle.std.proofs.Math.ListN.{get_or-eq_default, get_or-append}
use Rattle.std.proofs.Math.Seq.{take-length}
use Rattle.std.proofs.lemmas.List.{take-append-le, drop-append-le}
use Rattle.little_endian.specs.Bytes.{little, bytes}
use Rattle.settings.specs.declared.kinds.Settings.{Settings}
use Rattle.settings.specs.Settings.{good_of}
use Rattle.settings.specs.Records.{size_of, grid_of, settings_of, check_of, record_of}
use Rattle.settings.specs.Whole.{One}
use Rattle.settings.proofs.Laws.Settings.{passed}

-- The size that a mark's version says.
abbrev by_version : ℕ → ℕ
by_version m = cond (eqb m 49) 12 (cond (eqb m 50) 24 0)

size-none-by : (t : Bool) → cond t (by_version 0) 0 ≡ 0
size-none-by true = refl
size-none-by false = refl

-- Fewer than two bytes have no mark.
pub size_none : (b : List ℕ) → length b < 2 → 0 ≡ size_of b
unfolding size_of
size_none b h = sym (ap (λ (m : ℕ). cond (eqb (get_or b 0 0) 89) (by_version m) 0) (get_or-eq_default b 0 {n = 1} (omega arith)) ∙ size-none-by (eqb (get_or b 0 0) 89))

some-second : (u v : Bool) → 0 < cond u 12 (cond v 24 0) → (12 ≤ cond u 12 (cond v 24 0)) × (cond u 12 (cond v 24 0) ≤ 24)
some-second true v h = (omega arith, omega arith)
some-second false true h = (omega arith, omega arith)
some-second false false h = absurd (omega arith)

some_first : (t u v : Bool) → 0 < cond t (cond u 12 (cond v 24 0)) 0 → (12 ≤ cond t (cond u 12 (cond v 24 0)) 0) × (cond t (cond u 12 (cond v 24 0)) 0 ≤ 24)
some_first true u v h = some-second u v h
some_first false u v h = absurd (omega arith)

-- A record has from 12 to 24 bytes.
pub size-some : (b : List ℕ) → 0 < size_of b → (12 ≤ size_of b) × (size_of b ≤ 24)
unfolding size_of
size-some b h = some_first (eqb (get_or b 0 0) 89) (eqb (get_or b 1 0) 49) (eqb (get_or b 1 0) 50) h

-- A written record has 24 bytes.
pub record-length : (g : ℕ) (s : Settings) → length (record_of g s) ≡ 24
unfolding record_of bytes
record-length g s = refl

-- What holds of bytes that start with a record with nothing wrong.
pub record Parts (two : Bool) (b : List ℕ) : Type 0 where
  pub long : 2 ≤ length b
  pub marked : 0 < size_of b
  pub known : (not two && eqb (size_of b) 24) ≡ false
  pub enough : size_of b ≤ length b
  pub good : good_of (settings_of (take (size_of b) b)) ≡ Ok tt

pub fine-parts : (two : Bool) (b : List ℕ) → check_of two b ≡ Ok tt → Parts two b
unfolding check_of
fine-parts two b e =
    let p = passed _ _ (ltb (length b) 2) e in
    let q = passed _ _ (eqb (size_of b) 0) p.1 in
    let r = passed _ _ (not two && eqb (size_of b) 24) q.1 in
    let t = passed _ _ (ltb (length b) (size_of b)) r.1 in
    let n = eqb-false (size_of b) 0 q.0 in
    record { long = ltb-false (length b) 2 p.0; marked = omega arith; known = r.0; enough = ltb-false (length b) (size_of b) t.0; good = t.1 }

pub parts-fine : (two : Bool) (b : List ℕ) → Parts two b → check_of two b ≡ Ok tt
unfolding check_of
parts-fine two b p =
    simp (le-ltb (length b) 2 p.long, ne_eqb (size_of b) 0 (omega arith), p.known, le-ltb (length b) (size_of b) p.enough) p.good

-- The mark is in the first two bytes.
pub size-front : (r c : List ℕ) → 2 ≤ length r → size_of (r ++ c) ≡ size_of r
unfolding size_of
size-front r c h = simp (get_or-append r c 0 0 (omega arith), get_or-append r c 0 1 (omega arith))

-- A record has from 12 to 24 bytes.
pub one_size : {two : Bool} {r : List ℕ} → One two r → (12 ≤ length r) × (length r ≤ 24)
one_size {two} {r} o =
    let p = fine-parts two r o.fine in
    let q = size-some r p.marked in
    let e = o.sized in
    (omega arith, omega arith)

-- Bytes that start with one record have its length.
pub one-sized : {two : Bool} {r : List ℕ} (c : List ℕ) → One two r → size_of (r ++ c) ≡ length r
one-sized {two} {r} c o = let h = one_size o in size-front r c (omega arith) ∙ o.sized

-- Bytes that start with one record have nothing wrong.
pub one-fine : {two : Bool} {r : List ℕ} (c : List ℕ) → One two r → check_of two (r ++ c) ≡ Ok tt
one-fine {two} {r} c o =
    let p = fine-parts two r o.fine in
    let h = one_size o in
    let e = one-sized c o in
    let l = length-append r c in
    let s = o.sized in
    let f : take (size_of (r ++ c)) (r ++ c) ≡ take (size_of r) r =
    ap (λ (k : ℕ). take k (r ++ c)) e ∙ take_at r c (length r) refl ∙ sym (ap (λ (k : ℕ). take k r) s ∙ take-length r) in
    parts-fine two (r ++ c) (record {
      long = omega arith;
      marked = omega arith;
      known = ap (λ (k : ℕ). not two && eqb k 24) (e ∙ sym s) ∙ p.known;
      enough = omega arith;
      good = ap (λ (t : List ℕ). good_of (settings_of t)) f ∙ p.good;
    })

-- The record that bytes with nothing wrong start with.
pub first_one : (two : Bool) (b : List ℕ) → check_of two b ≡ Ok tt → One two (take (size_of b) b)
first_one two b e =
    let p = fine-parts two b e in
    let k = size_of b in
    let h = size-some b p.marked in
    let r = take k b in
    let l : length r ≡ k = length-take-le k b p.enough in
    let s : size_of r ≡ k = sym (size-front r (drop k b) (omega arith)) ∙ ap size_of (take-append-drop k b) in
    let f : take (size_of r) r ≡ r = ap (λ (n : ℕ). take n r) (s ∙ sym l) ∙ take-length r in
    record {
      fine = parts-fine two r (record {
        long = omega arith;
        marked = omega arith;
        known = ap (λ (n : ℕ). not two && eqb n 24) s ∙ p.known;
        enough = omega arith;
        good = ap (λ (t : List ℕ). good_of (settings_of t)) f ∙ p.good;
      });
      sized = s ∙ sym l;
    }

-- What one record says has nothing wrong.
pub one-good : {two : Bool} {r : List ℕ} → One two r → good_of (settings_of r) ≡ Ok tt
one-good {two} {r} o = ap (λ (t : List ℕ). good_of (settings_of t)) (sym (ap (λ (k : ℕ). take k r) o.sized ∙ take-length r)) ∙ (fine-parts two r o.fine).good

-- The grid is in the first twelve bytes.
pub grid-front : (r c : List ℕ) → 12 ≤ length r → grid_of (r ++ c) ≡ grid_of r
unfolding grid_of
grid-front r c h =
    let l = length-drop 2 r in
    ap little (ap (take 8) (drop-append-le 2 r c (omega arith)) ∙ take-append-le 8 (drop 2 r) c (omega arith))

pub grid-first : (w : List ℕ) (k : ℕ) → 12 ≤ k → k ≤ length w → grid_of w ≡ grid_of (take k w)
grid-first w k h l =
    let e = length-take-le k w l in
    ap grid_of (sym (take-append-drop k w)) ∙ grid-front (take k w) (drop k w) (omega arith)
