-- What R-12 says of writing: where the version 2 reader told no fault before, what was written reads back.
use Rattle.std.specs.Prelude.{Ok, Err, Some}
use Rattle.settings.specs.declared.kinds.ReadError.TheVariants as reading_error
use Rattle.std.specs.Prelude.{ℕ, ◌<◌, ◌≡◌, true, List}
use Rattle.settings.specs.declared.kinds.Settings.{Settings}
use Rattle.settings.specs.declared.kinds.Fault.{Fault}
use Rattle.settings.specs.Reading.{read_of}
use Rattle.settings.specs.Writing.{write_of}
use Rattle.settings.proofs.Laws.Reading.{read_whole}
use Rattle.settings.proofs.Laws.Writing.{wrote, reads-own, reads-others}

module _ (s : List ℕ) (n g : ℕ) (a : Settings) (m : ℕ) (t : List ℕ) (fits : g < 18446744073709551616)
    (written : write_of s n g a ≡ (Ok m, t)) (fine : (f : Fault) (p : ℕ) → read_of true s n g ≡ Err (reading_error.Faulty f p) → ⊥) where
  -- The grid reads as the settings that were written.
  pub written-reads : read_of true t m g ≡ Ok (Some a)
  written-reads =
      let w = wrote s n g a m t written in
      let o = read_whole true s n g w.within fine in
      reads-own s n g a m t w o.0 o.1 fits

  -- Every other grid reads as before.
  pub others-read : (h : ℕ) → (g ≡ h → ⊥) → read_of true t m h ≡ read_of true s n h
  others-read h k =
      let w = wrote s n g a m t written in
      let o = read_whole true s n g w.within fine in
      reads-others s n g a m t w o.0 o.1 fits h k
