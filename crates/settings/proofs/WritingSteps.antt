-- Each way out of writing.
use Rattle.std.specs.Prelude.{Ok, Err}
use Rattle.settings.specs.Answers.{Check}
use Rattle.settings.specs.declared.kinds.WriteError.TheVariants as writing_error
use Prim.Native.Nat.{ℕ, ◌+◌, ◌-◌, ◌<◌, ◌≤◌}
use mathlib.Core.Path.{◌≡◌, sym, ap, ◌∙◌}
use mathlib.Core.List.{List, ◌++◌}
use borrow.Author.Tests.{lt-ltb, le-ltb}
use lib.ListN.{length, take, drop}
use Rattle.little_endian.specs.Bytes.{put}
use Rattle.settings.specs.declared.kinds.Settings.{Settings}
use Rattle.settings.specs.declared.kinds.Fault.{Fault}
use Rattle.settings.specs.Settings.{good_of}
use Rattle.settings.specs.Records.{record_of}
use Rattle.settings.specs.Writing.{write_good, write_of}
use Rattle.settings.proofs.Laws.Records.{record-length}

module _ (s : List ℕ) (n g : ℕ) (a : Settings) where
  pub overlong : length s < n → (Err writing_error.Overlong, s) ≡ write_of s n g a
  unfolding write_of
  overlong h = simp (lt-ltb _ _ h)

  within : n ≤ length s → write_of s n g a ≡ write_good (good_of a) s n (record_of g a)
  unfolding write_of
  within h = simp (le-ltb _ _ h)

  given : {k : Check} → n ≤ length s → good_of a ≡ k → write_of s n g a ≡ write_good k s n (record_of g a)
  given h e = within h ∙ ap (λ (k : Check). write_good k s n (record_of g a)) e

  pub refused : {f : Fault} → n ≤ length s → good_of a ≡ Err f → (Err (writing_error.Refused f), s) ≡ write_of s n g a
  refused h e = sym (given h e)

  pub no_room : n ≤ length s → good_of a ≡ Ok tt → length s - n < 24 → (Err (writing_error.NoRoom (n + 24)), s) ≡ write_of s n g a
  no_room h e k = sym (given h e ∙ simp (lt-ltb _ _ k))

  pub written : {r : ℕ} {t : List ℕ} → n ≤ length s → good_of a ≡ Ok tt → 24 ≤ length s - n → (r, t) ≡ put s n (record_of g a) → (Ok r, t) ≡ write_of s n g a
  unfolding put
  written h e k p =
      (λ j. (Ok (p j).0, (p j).1))
      ∙ (λ j. (Ok (n + record-length g a j), take n s ++ (record_of g a ++ drop (n + record-length g a j) s)))
      ∙ sym (given h e ∙ simp (le-ltb _ _ k))
