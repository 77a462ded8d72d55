-- The bytes, and zeros above them, as the library reads them.
use Rattle.std.proofs.Common.{ℕ, length, take, drop, ◌≡◌, ◌+◌, ◌-◌, ◌^◌, ◌<◌, subst, get_or, ap, ◌∙◌, arith, length-take-le, length-drop}
use Rattle.little_endian.specs.Laws.Reading.{read_front, little-below, below-part}
use Rattle.little_endian.specs.Bytes.{little}
use Rattle.little_endian.proofs.number.Goals as goal

pub returns : goal.returns
returns g c =
    let b = c.args.bytes.now in
    let k = g.row.K in
    let part = take k (drop c.args.at b) in
    let cut : c.args.at + k - c.args.at ≡ k = omega arith in
    let e : c.copy_from_slice.new.self ≡ part = c.copy_from_slice.ensures.after ∙ ap (λ (n : ℕ). take n (drop c.args.at b)) cut in
    let l : length part ≡ k = length-take-le k (drop c.args.at b) (omega (arith, length-drop c.args.at b)) in
    let f : c.from_le_bytes.result ≡ little part = rw e at c.from_le_bytes.ensures ∙ read_front part k l c.requires.fits in
    let small : (i : ℕ) → get_or b i 0 < 256 = λ i. omega (arith, c.type_inv.bytes i) in
    let h : little part < 256 ^ k = subst (λ (n : ℕ). little part < 256 ^ n) l (little-below part (λ i q. below-part b c.args.at k small i (omega arith))) in
    (f, omega arith)
