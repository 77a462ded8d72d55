-- What R-12 says of keeping each grid's last record.
use Rattle.std.specs.Prelude.{Ok, Err}
use Rattle.settings.specs.Answers.{Keeping}
use Rattle.settings.specs.declared.kinds.ReadError.TheVariants as reading_error
use Rattle.std.specs.Prelude.{ℕ, ◌-◌, ◌≤◌, ◌≡◌, refl, Bool, true, false, cond, List, ◌++◌, length, take, drop, replicate, ltb}
use Rattle.settings.specs.declared.kinds.Fault.{Fault}
use Rattle.settings.specs.Parsing.{Records, whole, faulty, records_of}
use Rattle.settings.specs.Reading.{read_of}
use Rattle.settings.specs.Keeping.{keep_whole, keep_of}
use Rattle.settings.proofs.Laws.Reading.{read-faulty}
use Rattle.settings.proofs.Laws.Keeping.{keep-in, kept, within-n, slice_is, reads_same, kept_again}

module _ (s : List ℕ) (n : ℕ) (t : List ℕ) (m : ℕ) (u v : List ℕ) (done : keep_of s n t ≡ (Ok m, u, v)) where
  -- What is kept reads the same for every grid in the version 2 reader.
  pub kept-reads : (g : ℕ) → read_of true u m g ≡ read_of true s n g
  kept-reads g = reads_same s n t m u v (kept s n t m u v done) g

  -- Keeping twice is keeping once, whatever scratch is lent.
  pub kept-twice : (w : List ℕ) → keep_of u m w ≡ (Ok m, u, replicate (length w) 0)
  kept-twice w = kept_again s n t m u v (kept s n t m u v done) w

  -- Zeros go from the new length to the stated length and no further, and the scratch is zeros.
  pub kept-zeros : (m ≤ n) × (u ≡ take m u ++ (replicate (n - m) 0 ++ drop n s)) × (v ≡ replicate (length t) 0)
  kept-zeros = let k = kept s n t m u v done in (within-n s n t m u v k, slice_is s n t m u v k, k.scratch)

-- A faulty record is told as the version 2 reader tells it, and slice and scratch stay unchanged.
pub fault-kept : (s : List ℕ) (n : ℕ) (t : List ℕ) (g : ℕ) {f : Fault} {p : ℕ} → read_of true s n g ≡ Err (reading_error.Faulty f p) → keep_of s n t ≡ (Err (reading_error.Faulty f p), s, t)
fault-kept s n t g d = let q = read-faulty true s n g d in keep-in s n t q.0 q.1

-- The answer and the slice are the same whatever scratch is lent.
pub any-scratch : (s : List ℕ) (n : ℕ) (t w : List ℕ) → ((keep_of s n t).0 ≡ (keep_of s n w).0) × ((keep_of s n t).1 ≡ (keep_of s n w).1)
unfolding keep_of
any-scratch s n t w = go (ltb (length s) n) (records_of true (take n s))
  where
    -- What is answered with scratch x.
    with : Bool → Records → List ℕ → Keeping × List ℕ × List ℕ
    with o r x = cond o (Err reading_error.Overlong, s, x) (keep_whole s n x r)

    go : (o : Bool) (r : Records) → ((with o r t).0 ≡ (with o r w).0) × ((with o r t).1 ≡ (with o r w).1)
    go true r = (refl, refl)
    go false (faulty f p) = (refl, refl)
    go false (whole rs) = (refl, refl)
