-- For each call: the paper's number is told exactly when it says so.
use Rattle.std.specs.Prelude.{Ok, Err}
use Rattle.settings.specs.Answers.{Check, Writing, Keeping}
use Rattle.settings.specs.declared.kinds.ReadError.TheVariants as reading_error
use Rattle.settings.specs.declared.kinds.WriteError.TheVariants as writing_error
use Rattle.std.specs.Prelude.{ℕ, ◌+◌, ◌-◌, refl, Bool, true, false, cond, not, List, ◌++◌, length, take, drop, ltb}
use Rattle.settings.specs.declared.kinds.Settings.{Settings}
use Rattle.settings.specs.Settings.{good_of}
use Rattle.settings.specs.Records.{record_of}
use Rattle.settings.specs.Parsing.{Records, whole, faulty, records_of}
use Rattle.settings.specs.Writing.{write_good, write_of}
use Rattle.settings.specs.Keeping.{keep_whole, keep_of}
use Rattle.settings.specs.Told.{writing_told, keeping_told, is_fine, is_whole, Exactly}

pub write-exactly : (s : List ℕ) (n g : ℕ) (a : Settings) → Exactly (writing_told (write_of s n g a).0) (not (ltb (length s) n)) (is_fine (good_of a)) (not (ltb (length s - n) 24))
unfolding write_of
write-exactly s n g a = go (ltb (length s) n) (good_of a)
  where
    fits : (t : Bool) → Exactly (writing_told (cond {A = Writing × List ℕ} t (Err (writing_error.NoRoom (n + 24)), s) (Ok (n + 24), take n s ++ (record_of g a ++ drop (n + 24) s))).0) true true (not t)
    fits true = record { eight = refl; zero = refl }
    fits false = record { eight = refl; zero = refl }

    go : (o : Bool) (c : Check) → Exactly (writing_told (cond {A = Writing × List ℕ} o (Err writing_error.Overlong, s) (write_good c s n (record_of g a))).0) (not o) (is_fine c) (not (ltb (length s - n) 24))
    go true c = record { eight = refl; zero = refl }
    go false (Err f) = record { eight = refl; zero = refl }
    go false (Ok tt) = fits (ltb (length s - n) 24)

-- Keeping needs no room.
pub keep-exactly : (s : List ℕ) (n : ℕ) (t : List ℕ) → Exactly (keeping_told (keep_of s n t).0) (not (ltb (length s) n)) (is_whole (records_of true (take n s))) true
unfolding keep_of
keep-exactly s n t = go (ltb (length s) n) (records_of true (take n s))
  where
    go : (o : Bool) (r : Records) → Exactly (keeping_told (cond {A = Keeping × List ℕ × List ℕ} o (Err reading_error.Overlong, s, t) (keep_whole s n t r)).0) (not o) (is_whole r) true
    go true r = record { eight = refl; zero = refl }
    go false (whole rs) = record { eight = refl; zero = refl }
    go false (faulty f p) = record { eight = refl; zero = refl }
