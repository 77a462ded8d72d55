-- What R-12 says of reading: which fault is told, and which record holds.
use Rattle.std.specs.Prelude.{Ok, Err, Some, None}
use Rattle.settings.specs.declared.kinds.ReadError.TheVariants as reading_error
use Rattle.std.specs.Prelude.{ℕ, ◌≤◌, ◌≡◌, refl, Bool, true, false, cond, List, [], ◌∷◌, ◌++◌, length, take, ltb}
use Rattle.std.proofs.Common.{arith, sym, ap, ◌∙◌, le-ltb}
use Rattle.settings.specs.declared.kinds.Settings.{Settings}
use Rattle.settings.specs.declared.kinds.Fault.{Fault}
use Rattle.settings.specs.Settings.{good_of}
use Rattle.settings.specs.Records.{grid_of, settings_of}
use Rattle.settings.specs.Parsing.{Records, whole, faulty, records_of}
use Rattle.settings.specs.Reading.{shown, tell, read_of}
use Rattle.settings.specs.Keeping.{has, joined}
use Rattle.settings.specs.Whole.{Ones}
use Rattle.settings.specs.First.{FirstFault}
use Rattle.settings.proofs.Laws.Parsing.{first-fault, sound, complete, past}
use Rattle.settings.proofs.Laws.Reading.{read-in, read-faulty, last_none, last-is, one-among, shown-good}

module _ (two : Bool) (s : List ℕ) (n g : ℕ) {f : Fault} {p : ℕ} (told : read_of two s n g ≡ Err (reading_error.Faulty f p)) where
  -- A fault that is told for one grid is told for every grid: nothing is shown for any.
  pub nothing-shown : (h : ℕ) → read_of two s n h ≡ Err (reading_error.Faulty f p)
  nothing-shown h = let q = read-faulty two s n g told in read-in two s n h q.0 ∙ ap (tell h) q.1

  -- It is the fault of the first faulty record, with the place where that starts; the records before it are fine.
  pub first-decides : FirstFault two 0 (take n s) f p
  first-decides = first-fault two f p 0 (take n s) (read-faulty two s n g told).1

-- The first faulty record decides: its fault and its place are told for every grid.
pub fault-told : (two : Bool) (s : List ℕ) (n g : ℕ) {f : Fault} {p : ℕ} → n ≤ length s → FirstFault two 0 (take n s) f p → read_of two s n g ≡ Err (reading_error.Faulty f p)
fault-told two s n g {f} {p} h x =
    let q = x.place in
    read-in two s n g h
    ∙ ap (tell g) (ap (records_of two) x.same ∙ past two 0 x.behind x.fine x.some x.fault ∙ ap (faulty f) (sym q))

-- The last record of a grid holds.
pub last-holds : (two : Bool) (s : List ℕ) (n g : ℕ) (front : List (List ℕ)) (r : List ℕ) (behind : List (List ℕ)) → n ≤ length s
    → Ones two (front ++ (r ∷ behind)) → take n s ≡ joined (front ++ (r ∷ behind)) → grid_of r ≡ g → has g behind ≡ false → read_of two s n g ≡ Ok (Some (settings_of r))
last-holds two s n g front r behind h os e own none =
    read-in two s n g h
    ∙ ap (tell g) (ap (records_of two) e ∙ complete two 0 os)
    ∙ ap shown (last-is g [] front r behind own none)
    ∙ ap (λ (t : Bool). cond t (Ok None) (Ok (Some (settings_of r)))) (le-ltb (length r) 12 (one-among front r behind os))

-- A grid with no record is not found.
pub none_found : (two : Bool) (s : List ℕ) (n g : ℕ) (rs : List (List ℕ)) → n ≤ length s → Ones two rs → take n s ≡ joined rs → has g rs ≡ false → read_of two s n g ≡ Ok None
none_found two s n g rs h os e none = read-in two s n g h ∙ ap (tell g) (ap (records_of two) e ∙ complete two 0 os) ∙ ap shown (last_none g rs none [])

-- What is found has nothing wrong.
pub found-good : (two : Bool) (s : List ℕ) (n g : ℕ) (a : Settings) → read_of two s n g ≡ Ok (Some a) → good_of a ≡ Ok tt
unfolding read_of
found-good two s n g a d = go (ltb (length s) n) (records_of two (take n s)) refl d
  where
    go : (o : Bool) (m : Records) → records_of two (take n s) ≡ m → cond o (Err reading_error.Overlong) (tell g m) ≡ Ok (Some a) → good_of a ≡ Ok tt
    go true m e q = let z : ◌≡◌ {A = ℕ} 0 1 = cc in absurd (omega arith)
    go false (faulty f p) e q = let z : ◌≡◌ {A = ℕ} 0 1 = cc in absurd (omega arith)
    go false (whole rs) e q = shown-good g a (sound two 0 (take n s) rs e).0 q
