-- What R-12 says of the two readers.
use Rattle.std.specs.Prelude.{Err}
use Rattle.settings.specs.declared.kinds.ReadError.TheVariants as reading_error
use Rattle.std.specs.Prelude.{ℕ, ◌≡◌, refl, true, false, List, [], ◌⊎◌, length, take, ltb}
use Rattle.std.proofs.Common.{sym, ap, ◌∙◌, inl, inr}
use Rattle.settings.specs.declared.kinds.Fault.TheVariants.{NewerRecord}
use Rattle.settings.specs.Parsing.{records_of}
use Rattle.settings.specs.Reading.{last_of, tell, read_of}
use Rattle.settings.specs.Keeping.{joined}
use Rattle.settings.specs.Whole.{Ones}
use Rattle.settings.proofs.Laws.Parsing.{complete}
use Rattle.settings.proofs.Laws.Reading.{told-not, read-faulty}
use Rattle.settings.proofs.Laws.Versions.{versions-by, check-never}
use Rattle.settings.proofs.Theorems.Reading.{first-decides}

module _ (s : List ℕ) (n g : ℕ) where
  -- The reader of version 1 says "newer record" with a place, or what the reader of version 2 says.
  pub versions : ((p : ℕ) × (read_of false s n g ≡ Err (reading_error.Faulty NewerRecord p))) ⊎ (read_of false s n g ≡ read_of true s n g)
  versions = versions-by s n g (ltb (length s) n) refl

  -- The reader of version 2 never says "newer record".
  pub never-newer : (p : ℕ) → read_of true s n g ≡ Err (reading_error.Faulty NewerRecord p) → ⊥
  never-newer p d = let x = first-decides true s n g d in check-never x.behind x.fault

  -- Of records of version 1 both readers say the same.
  pub old-agree : (rs : List (List ℕ)) → Ones false rs → take n s ≡ joined rs → read_of false s n g ≡ read_of true s n g
  old-agree rs os e = go versions
    where
      go : ((p : ℕ) × (read_of false s n g ≡ Err (reading_error.Faulty NewerRecord p))) ⊎ (read_of false s n g ≡ read_of true s n g) → read_of false s n g ≡ read_of true s n g
      go (inr same) = same
      go (inl x) = told-not (last_of g [] rs) (sym (ap (tell g) (ap (records_of false) e ∙ complete false 0 os)) ∙ ap (tell g) (read-faulty false s n g x.1).1)
