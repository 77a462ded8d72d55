-- What bytes are, a record at a time; and that bytes are whole records just where they are records one behind the other.
use Rattle.std.specs.Prelude.{Ok, Err}
use Rattle.settings.specs.Answers.{Check}
use Rattle.std.specs.Prelude.{ℕ, zero, suc, ◌+◌, ◌-◌, ◌<◌, ◌≤◌, Bool, length, drop}
use Rattle.std.proofs.Common.{arith, ◌∙◌, eq-eqb, ne_eqb, length-append, length-drop, take-append-drop, take_at, drop_at, length-take-le}
use Rattle.std.proofs.Math.Path.{◌≡◌, refl, sym, ap}
use mathlib.Core.List.{List, [], ◌∷◌, ◌++◌, append_assoc}
use Rattle.std.proofs.Math.ListN.{take}
use Rattle.settings.specs.declared.kinds.Fault.{Fault}
use Rattle.settings.specs.Records.{size_of, check_of}
use Rattle.settings.specs.Parsing.{Records, whole, faulty, after, parse}
use Rattle.settings.specs.Keeping.{joined}
use Rattle.settings.specs.Whole.{Ones, none, more}
use Rattle.settings.specs.First.{FirstFault}
use Rattle.settings.proofs.Laws.Records.{fine-parts, first_one, one-fine, one_size, one-sized}

-- What bytes are that start at a place.
abbrev pub from : Bool → ℕ → List ℕ → Records
from two at b = parse two (length b) at b

module _ (two : Bool) where
  turn-none : (k at : ℕ) (b : List ℕ) → length b ≡ 0 → parse two (suc k) at b ≡ whole []
  unfolding parse
  turn-none k at b h = simp (eq-eqb (length b) 0 h)

  turn-bad : (k at : ℕ) (b : List ℕ) {f : Fault} → 0 < length b → check_of two b ≡ Err f → parse two (suc k) at b ≡ faulty f at
  unfolding parse
  turn-bad k at b h e = simp (ne_eqb (length b) 0 (omega arith), e)

  turn_more : (k at : ℕ) (b : List ℕ) → 0 < length b → check_of two b ≡ Ok tt
      → parse two (suc k) at b ≡ after (take (size_of b) b) (parse two k (at + size_of b) (drop (size_of b) b))
  unfolding parse
  turn_more k at b h e = simp (ne_eqb (length b) 0 (omega arith), e)

  no-turn : (at : ℕ) (b : List ℕ) → parse two 0 at b ≡ whole []
  unfolding parse
  no-turn at b = refl

  -- A record takes bytes away.
  pub shorter : (b : List ℕ) → check_of two b ≡ Ok tt → length (drop (size_of b) b) < length b
  shorter b e =
      let p = fine-parts two b e in
      let m = p.marked in
      let n = p.enough in
      let l = length-drop (size_of b) b in
      omega arith

  same_by : (j k at : ℕ) (b : List ℕ) → 0 < length b → length b ≤ suc j → length b ≤ suc k
      → ((at : ℕ) (b : List ℕ) → length b ≤ j → length b ≤ k → parse two j at b ≡ parse two k at b)
      → (c : Check) → check_of two b ≡ c → parse two (suc j) at b ≡ parse two (suc k) at b
  same_by j k at b h p q r (Err f) e = turn-bad j at b h e ∙ sym (turn-bad k at b h e)
  same_by j k at b h p q r (Ok tt) e =
      let l = shorter b e in
      turn_more j at b h e
      ∙ ap (after (take (size_of b) b)) (r (at + size_of b) (drop (size_of b) b) (omega arith) (omega arith))
      ∙ sym (turn_more k at b h e)

  -- Any two numbers of turns that are enough come to the same.
  same : (j k at : ℕ) (b : List ℕ) → length b ≤ j → length b ≤ k → parse two j at b ≡ parse two k at b
  same zero zero at b p q = refl
  same zero (suc k) at b p q = no-turn at b ∙ sym (turn-none k at b (omega arith))
  same (suc j) zero at b p q = turn-none j at b (omega arith) ∙ sym (no-turn at b)
  same (suc j) (suc k) at [] p q = turn-none j at [] refl ∙ sym (turn-none k at [] refl)
  same (suc j) (suc k) at (x ∷ b) p q = same_by j k at (x ∷ b) (omega arith) p q (same j k) (check_of two (x ∷ b)) refl

  -- No bytes are no records.
  pub from-none : (at : ℕ) (b : List ℕ) → length b ≡ 0 → from two at b ≡ whole []
  from-none at b h = ap (λ (k : ℕ). parse two k at b) h ∙ no-turn at b

  -- Bytes whose first record is bad have its fault.
  pub from-bad : (at : ℕ) (b : List ℕ) {f : Fault} → 0 < length b → check_of two b ≡ Err f → from two at b ≡ faulty f at
  from-bad at b h e =
      let k = length b - 1 in
      let s : length b ≡ suc k = omega arith in
      ap (λ (n : ℕ). parse two n at b) s ∙ turn-bad k at b h e

  -- Bytes whose first record is fine are that record and what is behind it.
  pub from_more : (at : ℕ) (b : List ℕ) → 0 < length b → check_of two b ≡ Ok tt
      → from two at b ≡ after (take (size_of b) b) (from two (at + size_of b) (drop (size_of b) b))
  from_more at b h e =
      let k = length b - 1 in
      let s : length b ≡ suc k = omega arith in
      let c = drop (size_of b) b in
      let l = shorter b e in
      ap (λ (n : ℕ). parse two n at b) s ∙ turn_more k at b h e ∙ ap (after (take (size_of b) b)) (same k (length c) (at + size_of b) c (omega arith) (omega arith))

whole-inj : {a b : List (List ℕ)} → whole a ≡ whole b → a ≡ b
whole-inj e = cc

faulty-whole : {f : Fault} {p : ℕ} {a : List (List ℕ)} {A : Type 0} → faulty f p ≡ whole a → A
faulty-whole e = let z : ◌≡◌ {A = ℕ} 0 1 = cc in absurd (omega arith)

-- Whole records with one in front are that one and the others.
behind : (r : List ℕ) (m : Records) (rs : List (List ℕ)) → after r m ≡ whole rs → (qs : List (List ℕ)) × (m ≡ whole qs) × (rs ≡ r ∷ qs)
behind r (whole qs) rs e = (qs, refl, sym (whole-inj e))
behind r (faulty f p) rs e = faulty-whole e

-- What whole records are made of.
Sound : Bool → List ℕ → List (List ℕ) → Type 0
Sound two b rs = Ones two rs × (b ≡ joined rs)

pub joined-more : (r : List ℕ) (rs : List (List ℕ)) → joined (r ∷ rs) ≡ r ++ joined rs
unfolding joined
joined-more r rs = refl

pub joined-none : joined [] ≡ []
unfolding joined
joined-none = refl

module _ (two : Bool) where
  sound_none : (rs : List (List ℕ)) → [] ≡ rs → Sound two [] rs
  unfolding Sound
  sound_none [] e = (none, sym joined-none)
  sound_none (r ∷ rs) e = let z : ◌≡◌ {A = ℕ} 0 1 = cc in absurd (omega arith)

  sound_more : (b : List ℕ) (rs qs : List (List ℕ)) → check_of two b ≡ Ok tt → rs ≡ take (size_of b) b ∷ qs → Sound two (drop (size_of b) b) qs → Sound two b rs
  unfolding Sound
  sound_more b rs qs e f s =
      let r = take (size_of b) b in
      rw f (more (first_one two b e) s.0, sym (take-append-drop (size_of b) b) ∙ ap (λ (t : List ℕ). r ++ t) s.1 ∙ sym (joined-more r qs))

  sound-by : (k at : ℕ) (b : List ℕ) (rs : List (List ℕ)) → 0 < length b → length b ≤ suc k
      → ((at : ℕ) (b : List ℕ) (rs : List (List ℕ)) → length b ≤ k → from two at b ≡ whole rs → Sound two b rs)
      → (c : Check) → check_of two b ≡ c → from two at b ≡ whole rs → Sound two b rs
  sound-by k at b rs h l r (Err f) e w = faulty-whole (sym (from-bad two at b h e) ∙ w)
  sound-by k at b rs h l r (Ok tt) e w =
      let m = behind (take (size_of b) b) (from two (at + size_of b) (drop (size_of b) b)) rs (sym (from_more two at b h e) ∙ w) in
      let d = shorter two b e in
      sound_more b rs m.0 e m.2 (r (at + size_of b) (drop (size_of b) b) m.0 (omega arith) m.1)

  sound-within : (k at : ℕ) (b : List ℕ) (rs : List (List ℕ)) → length b ≤ k → from two at b ≡ whole rs → Sound two b rs
  sound-within zero at [] rs l w = sound_none rs (whole-inj (sym (from-none two at [] refl) ∙ w))
  sound-within zero at (x ∷ b) rs l w = absurd (omega arith)
  sound-within (suc k) at [] rs l w = sound_none rs (whole-inj (sym (from-none two at [] refl) ∙ w))
  sound-within (suc k) at (x ∷ b) rs l w = sound-by k at (x ∷ b) rs (omega arith) l (λ at b rs l w. sound-within k at b rs l w) (check_of two (x ∷ b)) refl w

  -- Bytes that are whole records are those records, one behind the other, and each has nothing wrong.
  pub sound : (at : ℕ) (b : List ℕ) (rs : List (List ℕ)) → from two at b ≡ whole rs → Ones two rs × (b ≡ joined rs)
  unfolding Sound
  sound at b rs w = sound-within (length b) at b rs (omega arith) w

  -- Records with nothing wrong, one behind the other, are whole records.
  pub complete : (at : ℕ) {rs : List (List ℕ)} → Ones two rs → from two at (joined rs) ≡ whole rs
  complete at none = ap (from two at) joined-none ∙ from-none two at [] refl
  complete at (more {r} {rs} o os) =
      let c = joined rs in
      let b = r ++ c in
      let s = one-sized c o in
      let p = fine-parts two b (one-fine c o) in
      let m = p.marked in
      let n = p.enough in
      ap (from two at) (joined-more r rs)
      ∙ from_more two at b (omega arith) (one-fine c o)
      ∙ ap (λ (k : ℕ). after (take k b) (from two (at + k) (drop k b))) s
      ∙ (λ j. after (take_at r c (length r) refl j) (from two (at + length r) (drop_at r c (length r) refl j)))
      ∙ ap (after r) (complete (at + length r) os)

faulty-inj : {f g : Fault} {p q : ℕ} → faulty f p ≡ faulty g q → (f ≡ g) × (p ≡ q)
faulty-inj e = (cc, cc)

whole-faulty : {f : Fault} {p : ℕ} {a : List (List ℕ)} {A : Type 0} → whole a ≡ faulty f p → A
whole-faulty e = let z : ◌≡◌ {A = ℕ} 0 1 = cc in absurd (omega arith)

after-faulty : (r : List ℕ) (m : Records) {f : Fault} {p : ℕ} → after r m ≡ faulty f p → m ≡ faulty f p
after-faulty r (whole qs) e = whole-faulty e
after-faulty r (faulty g q) e = e

module _ (two : Bool) (f : Fault) (p : ℕ) where
  first-here : (at : ℕ) (b : List ℕ) (g : Fault) → 0 < length b → check_of two b ≡ Err g → faulty g at ≡ faulty f p → FirstFault two at b f p
  first-here at b g h e d =
      let i = faulty-inj d in
      let l : length (joined []) ≡ 0 = ap length joined-none in
      let j = i.1 in
      record { before = []; behind = b; fine = none; same = sym (ap (λ (x : List ℕ). x ++ b) joined-none); place = omega arith; some = h; fault = e ∙ ap Err i.0 }

  first-later : (at : ℕ) (b : List ℕ) → check_of two b ≡ Ok tt → FirstFault two (at + size_of b) (drop (size_of b) b) f p → FirstFault two at b f p
  first-later at b e x =
      let r = take (size_of b) b in
      let q = fine-parts two b e in
      let l = length-take-le (size_of b) b q.enough in
      let n = length-append r (joined x.before) in
      let k = ap length (joined-more r x.before) in
      let j = x.place in
      record {
        before = r ∷ x.before;
        behind = x.behind;
        fine = more (first_one two b e) x.fine;
        same =
            sym (take-append-drop (size_of b) b)
            ∙ ap (λ (y : List ℕ). r ++ y) x.same
            ∙ sym (append_assoc r (joined x.before) x.behind)
            ∙ ap (λ (y : List ℕ). y ++ x.behind) (sym (joined-more r x.before));
        place = omega arith;
        some = x.some;
        fault = x.fault;
      }

  first_by : (k at : ℕ) (b : List ℕ) → 0 < length b → length b ≤ suc k → ((at : ℕ) (b : List ℕ) → length b ≤ k → from two at b ≡ faulty f p → FirstFault two at b f p)
      → (c : Check) → check_of two b ≡ c → from two at b ≡ faulty f p → FirstFault two at b f p
  first_by k at b h l i (Err g) e w = first-here at b g h e (sym (from-bad two at b h e) ∙ w)
  first_by k at b h l i (Ok tt) e w =
      let d = shorter two b e in
      first-later at b e (i (at + size_of b) (drop (size_of b) b) (omega arith) (after-faulty (take (size_of b) b) _ (sym (from_more two at b h e) ∙ w)))

  first-within : (k at : ℕ) (b : List ℕ) → length b ≤ k → from two at b ≡ faulty f p → FirstFault two at b f p
  first-within zero at b l w = whole-faulty (sym (from-none two at b (omega arith)) ∙ w)
  first-within (suc k) at [] l w = whole-faulty (sym (from-none two at [] refl) ∙ w)
  first-within (suc k) at (x ∷ b) l w = first_by k at (x ∷ b) (omega arith) l (λ at b l w. first-within k at b l w) (check_of two (x ∷ b)) refl w

  -- A fault that bytes have is that of their first faulty record, with its place.
  pub first-fault : (at : ℕ) (b : List ℕ) → from two at b ≡ faulty f p → FirstFault two at b f p
  first-fault at b w = first-within (length b) at b (omega arith) w

-- Bytes behind records with nothing wrong: their first record is asked next.
pub past : (two : Bool) (at : ℕ) {rs : List (List ℕ)} (b : List ℕ) → Ones two rs → {f : Fault} → 0 < length b → check_of two b ≡ Err f
    → from two at (joined rs ++ b) ≡ faulty f (at + length (joined rs))
past two at b none {f} h e =
    let l : length (joined []) ≡ 0 = ap length joined-none in
    let z : at ≡ at + length (joined []) = omega arith in
    ap (λ (x : List ℕ). from two at (x ++ b)) joined-none ∙ from-bad two at b h e ∙ ap (faulty f) z
past two at b (more {r} {rs} o os) {f} h e =
    let c = joined rs ++ b in
    let s = one-sized c o in
    let l = length-append r c in
    let n = one_size o in
    let k = length-append r (joined rs) in
    let z : at + length r + length (joined rs) ≡ at + length (r ++ joined rs) = omega arith in
    ap (λ (x : List ℕ). from two at (x ++ b)) (joined-more r rs)
    ∙ ap (from two at) (append_assoc r (joined rs) b)
    ∙ from_more two at (r ++ c) (omega arith) (one-fine c o)
    ∙ ap (λ (k : ℕ). after (take k (r ++ c)) (from two (at + k) (drop k (r ++ c)))) s
    ∙ (λ j. after (take_at r c (length r) refl j) (from two (at + length r) (drop_at r c (length r) refl j)))
    ∙ ap (after r) (past two (at + length r) b os h e)
    ∙ ap (faulty f) (z ∙ ap (λ (x : List ℕ). at + length x) (sym (joined-more r rs)))
