-- Laws of writing: what is written is read back.
use Rattle.std.specs.Prelude.{Ok, Err, Some, None}
use Rattle.settings.specs.Answers.{Check, Writing}
use Rattle.settings.specs.declared.kinds.WriteError.TheVariants as writing_error
use Rattle.std.specs.Prelude.{ℕ, ◌+◌, ◌-◌, ◌<◌, ◌≤◌, ◌≡◌, refl, Bool, true, false, cond, ◌&&◌, List, [], ◌∷◌, ◌++◌, length, take, drop, ℤ, pos, negsuc, ltb, leb, eqb}
use Rattle.std.proofs.Common.{arith, sym, ap, ◌∙◌, append_assoc, append-nil, ltb-true, ltb-false, lt-ltb, le-ltb, leb-true, eq-eqb, ne_eqb, length-append, take_at, length-take-le}
use Rattle.std.specs.Int.Signed.{mag}
use Rattle.little_endian.specs.Bytes.{little, bytes}
use Rattle.little_endian.specs.Laws.Numbers.{little-bytes}
use Rattle.settings.specs.declared.kinds.Settings.{Settings}
use Rattle.settings.specs.Settings.{axis_ok, good_of}
use Rattle.settings.specs.Records.{signed_of, bits_of, size_of, grid_of, axis_of, settings_of, record_of}
use Rattle.settings.specs.Parsing.{whole, records_of}
use Rattle.settings.specs.Reading.{last_of, shown, tell, read_of}
use Rattle.settings.specs.Writing.{write_good, write_of}
use Rattle.settings.specs.Keeping.{joined}
use Rattle.settings.specs.Whole.{One, Ones, none, more}
use Rattle.component.specs.Laws.Tests.{both}
use Rattle.settings.proofs.Laws.Signed.{bits_below, signed-bits}
use Rattle.settings.proofs.Laws.Settings.{good-parts}
use Rattle.settings.proofs.Laws.Records.{parts-fine, record-length}
use Rattle.settings.proofs.Laws.Parsing.{sound, complete}
use Rattle.settings.proofs.Laws.Reading.{read-in, last-behind}

-- An origin coordinate that is good fits 32 bits.
axis-fits : (n : ℤ) → axis_ok n ≡ true → mag n < 2147483648
axis-fits (pos n) e = let h = leb-true n 1048576 (both true (leb n 1048576) e).1 in omega arith
axis-fits (negsuc n) e = let h = leb-true n 1048575 (both (leb n 1048575) true e).0 in omega arith

-- Each origin coordinate of good settings fits 32 bits.
good-fits : (a : Settings) → good_of a ≡ Ok tt → (mag a.x < 2147483648) × (mag a.y < 2147483648) × (mag a.z < 2147483648)
good-fits a e =
    let o = both (axis_ok a.x) (axis_ok a.y && axis_ok a.z) (good-parts a e).2 in
    let t = both (axis_ok a.y) (axis_ok a.z) o.1 in
    (axis-fits a.x o.0, axis-fits a.y t.0, axis-fits a.z t.1)

-- A signed number of 32 bits comes back from its bytes.
axis-back : (n : ℤ) → mag n < 2147483648 → signed_of (little (bytes 4 (bits_of n))) ≡ n
axis-back n h = ap signed_of (little-bytes 4 (bits_of n) (bits_below n)) ∙ signed-bits n h

-- What a written record says.
pub record-says : (g : ℕ) (a : Settings) → good_of a ≡ Ok tt → settings_of (record_of g a) ≡ a
unfolding settings_of axis_of record_of bytes
record-says g a e =
    let f = good-fits a e in
    λ j. record { edge = a.edge; kind = a.kind; x = axis-back a.x f.0 j; y = axis-back a.y f.1 j; z = axis-back a.z f.2 j }

pub record-grid : (g : ℕ) (a : Settings) → g < 18446744073709551616 → grid_of (record_of g a) ≡ g
unfolding grid_of record_of bytes
record-grid g a h = little-bytes 8 g h

record-size : (g : ℕ) (a : Settings) → size_of (record_of g a) ≡ 24
unfolding size_of record_of bytes
record-size g a = refl

take-24 : (g : ℕ) (a : Settings) → take 24 (record_of g a) ≡ record_of g a
unfolding record_of bytes
take-24 g a = refl

-- A written record has nothing wrong.
record-one : (g : ℕ) (a : Settings) → good_of a ≡ Ok tt → One true (record_of g a)
record-one g a e =
    let r = record_of g a in
    let s = record-size g a in
    let l = record-length g a in
    let t : take (size_of r) r ≡ r = ap (λ (k : ℕ). take k r) s ∙ take-24 g a in
    record {
      fine = parts-fine true r (record { long = omega arith; marked = omega arith; known = refl; enough = omega arith; good = ap (λ (x : List ℕ). good_of (settings_of x)) t ∙ ap good_of (record-says g a e) ∙ e });
      sized = s ∙ sym l;
    }

ones-behind : {rs : List (List ℕ)} {r : List ℕ} → Ones true rs → One true r → Ones true (rs ++ (r ∷ []))
ones-behind none o = more o none
ones-behind (more p os) o = more p (ones-behind os o)

joined-behind : (rs : List (List ℕ)) (r : List ℕ) → joined (rs ++ (r ∷ [])) ≡ joined rs ++ r
unfolding joined
joined-behind [] r = append-nil r
joined-behind (q ∷ rs) r = ap (λ (x : List ℕ). q ++ x) (joined-behind rs r) ∙ sym (append_assoc q (joined rs) r)

-- What it means that settings were written.
pub record Wrote (s : List ℕ) (n g : ℕ) (a : Settings) (m : ℕ) (t : List ℕ) : Type 0 where
  pub within : n ≤ length s
  pub good : good_of a ≡ Ok tt
  pub room : 24 ≤ length s - n
  pub count : m ≡ n + 24
  pub slice : t ≡ take n s ++ (record_of g a ++ drop (n + 24) s)

write-over : (s : List ℕ) (n g : ℕ) (a : Settings) → length s < n → write_of s n g a ≡ (Err writing_error.Overlong, s)
unfolding write_of
write-over s n g a h = simp (lt-ltb (length s) n h)

write-in : (s : List ℕ) (n g : ℕ) (a : Settings) {c : Check} → n ≤ length s → good_of a ≡ c → write_of s n g a ≡ write_good c s n (record_of g a)
unfolding write_of
write-in s n g a h e = simp (le-ltb (length s) n h) (ap (λ (c : Check). write_good c s n (record_of g a)) e)

module _ (s : List ℕ) (n g : ℕ) (a : Settings) (m : ℕ) (t : List ℕ) where
  wrote-room : (b : Bool) → ltb (length s - n) 24 ≡ b → n ≤ length s → good_of a ≡ Ok tt
      → ◌≡◌ {A = Writing × List ℕ} (cond b (Err (writing_error.NoRoom (n + 24)), s) (Ok (n + 24), take n s ++ (record_of g a ++ drop (n + 24) s))) (Ok m, t) → Wrote s n g a m t
  wrote-room true k h e d =
      let q : Err (writing_error.NoRoom (n + 24)) ≡ Ok m = ap (λ (q : Writing × List ℕ). q.0) d in
      let z : ◌≡◌ {A = ℕ} 0 1 = cc in absurd (omega arith)
  wrote-room false k h e d =
      let q : Ok (n + 24) ≡ Ok m = ap (λ (q : Writing × List ℕ). q.0) d in
      record { within = h; good = e; room = ltb-false (length s - n) 24 k; count = cc; slice = sym (ap (λ (q : Writing × List ℕ). q.1) d) }

  wrote-good : (c : Check) → n ≤ length s → good_of a ≡ c → write_good c s n (record_of g a) ≡ (Ok m, t) → Wrote s n g a m t
  wrote-good (Err f) h e d =
      let q : Err (writing_error.Refused f) ≡ Ok m = ap (λ (q : Writing × List ℕ). q.0) d in
      let z : ◌≡◌ {A = ℕ} 0 1 = cc in absurd (omega arith)
  wrote-good (Ok tt) h e d = wrote-room (ltb (length s - n) 24) refl h e d

  wrote_by : (b : Bool) → ltb (length s) n ≡ b → write_of s n g a ≡ (Ok m, t) → Wrote s n g a m t
  wrote_by true e d =
      let q : Err writing_error.Overlong ≡ Ok m = ap (λ (q : Writing × List ℕ). q.0) (sym (write-over s n g a (ltb-true (length s) n e)) ∙ d) in
      let z : ◌≡◌ {A = ℕ} 0 1 = cc in absurd (omega arith)
  wrote_by false e d =
      let h = ltb-false (length s) n e in
      wrote-good (good_of a) h refl (sym (write-in s n g a h refl) ∙ d)

  pub wrote : write_of s n g a ≡ (Ok m, t) → Wrote s n g a m t
  wrote d = wrote_by (ltb (length s) n) refl d

  -- The records of the new slice are the old ones and the one that was written.
  module _ (w : Wrote s n g a m t) (rs : List (List ℕ)) (old : records_of true (take n s) ≡ whole rs) where
    front_of : take m t ≡ take n s ++ record_of g a
    front_of =
        let p = take n s in
        let r = record_of g a in
        let c = w.count in
        let l : length (p ++ r) ≡ m = length-append p r ∙ (λ j. length-take-le n s w.within j + record-length g a j) ∙ sym c in
        ap (take m) (w.slice ∙ sym (append_assoc p r (drop (n + 24) s))) ∙ take_at (p ++ r) (drop (n + 24) s) m l

    long-enough : m ≤ length t
    long-enough =
        let p = take n s in
        let r = record_of g a in
        let x = length-append p (r ++ drop (n + 24) s) in
        let y = length-append r (drop (n + 24) s) in
        let z = record-length g a in
        let v = length-take-le n s w.within in
        let u = ap length w.slice in
        let c = w.count in
        omega arith

    records-of : records_of true (take m t) ≡ whole (rs ++ (record_of g a ∷ []))
    records-of =
        let o = sound true 0 (take n s) rs old in
        ap (records_of true) (front_of ∙ ap (λ (x : List ℕ). x ++ record_of g a) o.1 ∙ sym (joined-behind rs (record_of g a)))
        ∙ complete true 0 (ones-behind o.0 (record-one g a w.good))

    reads : (h : ℕ) → read_of true t m h ≡ shown (cond (eqb (grid_of (record_of g a)) h) (record_of g a) (last_of h [] rs))
    reads h = read-in true t m h long-enough ∙ ap (tell h) records-of ∙ ap shown (last-behind h [] rs (record_of g a))

    pub reads-own : g < 18446744073709551616 → read_of true t m g ≡ Ok (Some a)
    reads-own b =
        let l = record-length g a in
        reads g
        ∙ ap (λ (x : Bool). shown (cond x (record_of g a) (last_of g [] rs))) (eq-eqb (grid_of (record_of g a)) g (record-grid g a b))
        ∙ ap (λ (x : Bool). cond x (Ok None) (Ok (Some (settings_of (record_of g a))))) (le-ltb (length (record_of g a)) 12 (omega arith))
        ∙ ap (λ (x : Settings). Ok (Some x)) (record-says g a w.good)

    pub reads-others : g < 18446744073709551616 → (h : ℕ) → (g ≡ h → ⊥) → read_of true t m h ≡ read_of true s n h
    reads-others b h d =
        reads h
        ∙ ap (λ (x : Bool). shown (cond x (record_of g a) (last_of h [] rs))) (ne_eqb (grid_of (record_of g a)) h (λ e. d (sym (record-grid g a b) ∙ e)))
        ∙ sym (read-in true s n h w.within ∙ ap (tell h) old)
