-- Each way out of keeping the last records.
use Rattle.std.specs.Prelude.{Option, Ok, Err, Some, None, ltb}
use Rattle.settings.specs.Answers.{Reading}
use Rattle.settings.specs.declared.kinds.ReadError.{ReadError}
use Rattle.settings.specs.declared.kinds.ReadError.TheVariants as reading_error
use Prim.Native.Nat.{ℕ, ◌-◌, ◌<◌, ◌≤◌}
use native.Mathlib.Omega.{arith}
use mathlib.Core.Path.{◌≡◌, refl, sym, ap, ◌∙◌}
use mathlib.Core.Bool.{Bool, true, false, cond}
use mathlib.Core.List.{List, [], ◌++◌}
use borrow.Author.Tests.{lt-ltb}
use lib.ListN.{length, take, drop, replicate}
use Rattle.settings.specs.declared.kinds.Settings.{Settings}
use Rattle.settings.specs.Parsing.{Records, whole, faulty, records_of}
use Rattle.settings.specs.Reading.{last_of, tell}
use Rattle.settings.specs.Records.{settings_of}
use Rattle.settings.specs.Keeping.{keep_last, joined, kept_of, keep_of}
use Rattle.settings.specs.Whole.{Whole, Gathered}
use Rattle.settings.proofs.Laws.Keeping.{keep-in}
use Rattle.settings.proofs.Laws.Parsing.{sound}

-- Bytes that a reader takes are whole records.
pub whole-unless-faulty : (m : Records) {o : Option Settings} → Ok o ≡ tell 0 m → (rs : List (List ℕ)) × (m ≡ whole rs)
whole-unless-faulty (whole rs) e = (rs, refl)
whole-unless-faulty (faulty f p) e = let z : ◌≡◌ {A = ℕ} 0 1 = cc in absurd (omega arith)

-- Bytes that are read without a fault are whole records.
pub is_whole : (b : List ℕ) {rs : List (List ℕ)} → records_of true b ≡ whole rs → Whole rs b
is_whole b {rs} e = let p = sound true 0 b rs e in record { ones = p.0; same = p.1 }

-- What is gathered, and zeros behind it up to n.
pub finished : (rs : List (List ℕ)) (s : List ℕ) (n : ℕ) (w : List ℕ) {k : ℕ} {t u v : List ℕ} → Gathered (joined (keep_last rs)) s n k t
    → u ≡ take k t ++ (replicate (n - k) 0 ++ drop n t) → v ≡ replicate (length v) 0 → length v ≡ length w → (k, u, v) ≡ kept_of rs s n w
finished rs s n w {k} {t} {u} {v} g e d l =
    λ j. (
      g.count j,
      (e ∙ (λ i. g.front i ++ (replicate (n - g.count i) 0 ++ g.rest i))) j,
      (d ∙ ap (λ (i : ℕ). replicate i 0) l) j,
    )

told-by : (r : List ℕ) (b : Bool) {e : ReadError} {A : Type 0} → ◌≡◌ {A = Reading} (Err e) (cond b (Ok None) (Ok (Some (settings_of r)))) → A
told-by r true e = let z : ◌≡◌ {A = ℕ} 0 1 = cc in absurd (omega arith)
told-by r false e = let z : ◌≡◌ {A = ℕ} 0 1 = cc in absurd (omega arith)

module _ (s : List ℕ) (n : ℕ) (t : List ℕ) where
  broken-by : {x : ReadError} → n ≤ length s → (m : Records) → records_of true (take n s) ≡ m → Err x ≡ tell 0 m → (Err x, s, t) ≡ keep_of s n t
  broken-by {x} h (faulty f p) d e =
      let q : x ≡ reading_error.Faulty f p = cc in
      (λ j. (Err (q j), s, t)) ∙ sym (keep-in s n t h d)
  broken-by h (whole rs) d e = told-by (last_of 0 [] rs) (ltb (length (last_of 0 [] rs)) 12) e

  pub overlong : length s < n → (Err reading_error.Overlong, s, t) ≡ keep_of s n t
  unfolding keep_of
  overlong h = simp (lt-ltb _ _ h)

  -- What the reader refuses is refused.
  pub broken : {e : ReadError} → n ≤ length s → Err e ≡ tell 0 (records_of true (take n s)) → (Err e, s, t) ≡ keep_of s n t
  broken h e = broken-by h (records_of true (take n s)) refl e

  pub done : (rs : List (List ℕ)) {k : ℕ} {u v : List ℕ} → n ≤ length s → records_of true (take n s) ≡ whole rs → (k, u, v) ≡ kept_of rs s n t → (Ok k, u, v) ≡ keep_of s n t
  done rs h e d = ap (λ (q : ℕ × List ℕ × List ℕ). (Ok q.0, q.1, q.2)) d ∙ sym (keep-in s n t h e)
