-- A reader that moves on twice moves on, and what two reads put behind one another.
use Rattle.std.proofs.Common.{◌≡◌, ℕ, ◌+◌, ◌-◌, ◌≤◌, List, ◌++◌, Option, length, take, slice_range, sym, ap, ◌∙◌, arith, le_refl, drop_at, length-take-le}
use Rattle.std.proofs.Math.Seq.{take-add, take-append-le}
use Rattle.std.proofs.lemmas.Slice.{take-put_mid_below}
use Rattle.std.proofs.KnownBytes.{Consumes-trans}
use borrow.Rule.Slice.PartMut.{put_mid, post_of}
use Rattle.script_reader.specs.Places.{MovesOn}

-- First it goes from a to b, and then to c.
pub moves-on : (a b c : Option (List ℕ)) → MovesOn a b → MovesOn b c → MovesOn a c
moves-on a b c p q = (p.0 ++ q.0, Consumes-trans a b c p.0 q.0 p.1 q.1)

-- The first n bytes that are put at a place stand there.
part : (a k n : ℕ) (xs ys : List ℕ) → a ≤ length xs → n ≤ length ys → slice_range (put_mid a k xs ys) a (a + n) ≡ take n ys
part a k n xs ys within fits =
    let same : (a + n) - a ≡ n = omega arith in
    let after = post_of a k xs in
    ap (take ((a + n) - a)) (drop_at (take a xs) (ys ++ after) a (length-take-le a xs within)) ∙ ap (λ m. take m (ys ++ after)) same ∙ take-append-le n ys after fits

-- The bytes in front of a place, and the first n that are put there, are the first ones of the whole.
pub put-behind : (a k n : ℕ) (xs ys : List ℕ) → a ≤ length xs → n ≤ length ys → take a xs ++ take n ys ≡ take (a + n) (put_mid a k xs ys)
put-behind a k n xs ys within fits =
    let all = put_mid a k xs ys in
    let same : a + ((a + n) - a) ≡ a + n = omega arith in
    let front : take a all ≡ take a xs = take-put_mid_below _ _ _ _ _ (le_refl _) within in
    ap (λ l. take a xs ++ l) (sym (part a k n xs ys within fits)) ∙ ap (λ l. l ++ slice_range all a (a + n)) (sym front) ∙ sym (take-add a ((a + n) - a) all) ∙ ap (λ m. take m all) same
