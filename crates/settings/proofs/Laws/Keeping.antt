-- Laws of keeping each grid's last record.
use Rattle.std.specs.Prelude.{Ok, Err}
use Rattle.settings.specs.Answers.{Keeping}
use Rattle.settings.specs.declared.kinds.ReadError.TheVariants as reading_error
use Rattle.std.specs.Prelude.{ℕ, ◌+◌, ◌-◌, ◌<◌, ◌≤◌, ◌≡◌, refl, Bool, true, false, cond, ◌||◌, List, [], ◌∷◌, ◌++◌, length, take, drop, replicate, ltb, eqb}
use Rattle.std.proofs.Common.{arith, sym, ap, ◌∙◌, subst, ltb-true, ltb-false, lt-ltb, le-ltb, eqb-true, length-append, take_at, drop_at, length-take-le}
use Rattle.settings.specs.Records.{grid_of}
use Rattle.settings.specs.Parsing.{Records, whole, faulty, records_of}
use Rattle.settings.specs.Reading.{last_of, shown, tell, read_of}
use Rattle.settings.specs.Keeping.{has, keep_last, joined, filled, keep_whole, keep_of}
use Rattle.settings.specs.Whole.{One, Ones, none, more}
use Rattle.settings.proofs.Laws.Parsing.{joined-more, sound, complete}
use Rattle.settings.proofs.Laws.Reading.{read-in, last_has}

-- What is kept of records with one in front.
pub keep-by : (r : List ℕ) (rs : List (List ℕ)) {t : Bool} → has (grid_of r) rs ≡ t → keep_last (r ∷ rs) ≡ cond t (keep_last rs) (r ∷ keep_last rs)
unfolding keep_last
keep-by r rs e = ap (λ (t : Bool). cond t (keep_last rs) (r ∷ keep_last rs)) e

pub keep-none : keep_last [] ≡ []
unfolding keep_last
keep-none = refl

-- A record in front counts, if it is of the grid and no other is.
last_more : (g : ℕ) (h r : List ℕ) (rs : List (List ℕ)) → last_of g h (r ∷ rs) ≡ last_of g (cond (eqb (grid_of r) g) r h) rs
unfolding last_of
last_more g h r rs = refl

dropped-by : (g : ℕ) (h r : List ℕ) (rs : List (List ℕ)) → has (grid_of r) rs ≡ true → (t : Bool) → eqb (grid_of r) g ≡ t → last_of g h rs ≡ last_of g (cond t r h) rs
dropped-by g h r rs e true d = last_has g rs (ap (λ (k : ℕ). has k rs) (sym (eqb-true (grid_of r) g d)) ∙ e) h r
dropped-by g h r rs e false d = refl

-- A record whose grid has a later one is not asked.
dropped : (g : ℕ) (h r : List ℕ) (rs : List (List ℕ)) → has (grid_of r) rs ≡ true → last_of g h rs ≡ last_of g h (r ∷ rs)
dropped g h r rs e = dropped-by g h r rs e (eqb (grid_of r) g) refl ∙ sym (last_more g h r rs)

last-kept-by : (g : ℕ) (h r : List ℕ) (rs : List (List ℕ)) → ((h : List ℕ) → last_of g h (keep_last rs) ≡ last_of g h rs) → (t : Bool) → has (grid_of r) rs ≡ t → last_of g h (keep_last (r ∷ rs)) ≡ last_of g h (r ∷ rs)
last-kept-by g h r rs i true e = ap (last_of g h) (keep-by r rs e) ∙ i h ∙ dropped g h r rs e
last-kept-by g h r rs i false e =
    ap (last_of g h) (keep-by r rs e) ∙ last_more g h r (keep_last rs) ∙ i (cond (eqb (grid_of r) g) r h) ∙ sym (last_more g h r rs)

-- The last record of each grid is the last of those that are kept.
pub last-kept : (g : ℕ) (h : List ℕ) (rs : List (List ℕ)) → last_of g h (keep_last rs) ≡ last_of g h rs
last-kept g h [] = ap (last_of g h) keep-none
last-kept g h (r ∷ rs) = last-kept-by g h r rs (λ k. last-kept g k rs) (has (grid_of r) rs) refl

has_more : (g : ℕ) (r : List ℕ) (rs : List (List ℕ)) → has g (r ∷ rs) ≡ (eqb (grid_of r) g || has g rs)
unfolding has
has_more g r rs = refl

has-dropped : (g : ℕ) (r : List ℕ) (rs : List (List ℕ)) → has (grid_of r) rs ≡ true → (t : Bool) → eqb (grid_of r) g ≡ t → has g rs ≡ (t || has g rs)
has-dropped g r rs e true d = ap (λ (k : ℕ). has k rs) (sym (eqb-true (grid_of r) g d)) ∙ e
has-dropped g r rs e false d = refl

has-kept-by : (g : ℕ) (r : List ℕ) (rs : List (List ℕ)) → has g (keep_last rs) ≡ has g rs → (t : Bool) → has (grid_of r) rs ≡ t → has g (keep_last (r ∷ rs)) ≡ has g (r ∷ rs)
has-kept-by g r rs i true e = ap (has g) (keep-by r rs e) ∙ i ∙ has-dropped g r rs e (eqb (grid_of r) g) refl ∙ sym (has_more g r rs)
has-kept-by g r rs i false e = ap (has g) (keep-by r rs e) ∙ has_more g r (keep_last rs) ∙ ap (λ (t : Bool). eqb (grid_of r) g || t) i ∙ sym (has_more g r rs)

has_kept : (g : ℕ) (rs : List (List ℕ)) → has g (keep_last rs) ≡ has g rs
has_kept g [] = ap (has g) keep-none
has_kept g (r ∷ rs) = has-kept-by g r rs (has_kept g rs) (has (grid_of r) rs) refl

twice-by : (r : List ℕ) (rs : List (List ℕ)) → keep_last (keep_last rs) ≡ keep_last rs → (t : Bool) → has (grid_of r) rs ≡ t → keep_last (keep_last (r ∷ rs)) ≡ keep_last (r ∷ rs)
twice-by r rs i true e = ap keep_last (keep-by r rs e) ∙ i ∙ sym (keep-by r rs e)
twice-by r rs i false e =
    ap keep_last (keep-by r rs e) ∙ keep-by r (keep_last rs) (has_kept (grid_of r) rs ∙ e) ∙ ap (λ (k : List (List ℕ)). r ∷ k) i ∙ sym (keep-by r rs e)

-- What is kept is kept again.
pub keep-twice : (rs : List (List ℕ)) → keep_last (keep_last rs) ≡ keep_last rs
keep-twice [] = ap keep_last keep-none
keep-twice (r ∷ rs) = twice-by r rs (keep-twice rs) (has (grid_of r) rs) refl

ones-by : (two : Bool) (r : List ℕ) (rs : List (List ℕ)) → One two r → Ones two (keep_last rs) → (t : Bool) → has (grid_of r) rs ≡ t → Ones two (keep_last (r ∷ rs))
ones-by two r rs o k true e = subst (Ones two) (sym (keep-by r rs e)) k
ones-by two r rs o k false e = subst (Ones two) (sym (keep-by r rs e)) (more o k)

-- What is kept of records with nothing wrong has nothing wrong.
ones-kept : (two : Bool) (rs : List (List ℕ)) → Ones two rs → Ones two (keep_last rs)
ones-kept two [] none = subst (Ones two) (sym keep-none) none
ones-kept two (r ∷ rs) (more o os) = ones-by two r rs o (ones-kept two rs os) (has (grid_of r) rs) refl

shorter-by : (r : List ℕ) (rs : List (List ℕ)) → length (joined (keep_last rs)) ≤ length (joined rs) → (t : Bool) → has (grid_of r) rs ≡ t → length (joined (keep_last (r ∷ rs))) ≤ length (joined (r ∷ rs))
shorter-by r rs i true e =
    let k = ap (λ (x : List (List ℕ)). length (joined x)) (keep-by r rs e) in
    let l = ap length (joined-more r rs) ∙ length-append r (joined rs) in
    omega arith
shorter-by r rs i false e =
    let k = ap (λ (x : List (List ℕ)). length (joined x)) (keep-by r rs e) ∙ ap length (joined-more r (keep_last rs)) ∙ length-append r (joined (keep_last rs)) in
    let l = ap length (joined-more r rs) ∙ length-append r (joined rs) in
    omega arith

-- What is kept is no longer than all.
pub kept-shorter : (rs : List (List ℕ)) → length (joined (keep_last rs)) ≤ length (joined rs)
kept-shorter [] = let k = ap (λ (x : List (List ℕ)). length (joined x)) keep-none in omega arith
kept-shorter (r ∷ rs) = shorter-by r rs (kept-shorter rs) (has (grid_of r) rs) refl

-- What it means that each grid's last record was kept.
pub record Kept (s : List ℕ) (n : ℕ) (t : List ℕ) (m : ℕ) (u v : List ℕ) : Type 0 where
  pub within : n ≤ length s
  pub records : List (List ℕ)
  pub read : records_of true (take n s) ≡ whole records
  pub count : m ≡ length (joined (keep_last records))
  pub slice : u ≡ filled (joined (keep_last records)) s n
  pub scratch : v ≡ replicate (length t) 0

keep-over : (s : List ℕ) (n : ℕ) (t : List ℕ) → length s < n → keep_of s n t ≡ (Err reading_error.Overlong, s, t)
unfolding keep_of
keep-over s n t h = simp (lt-ltb (length s) n h)

pub keep-in : (s : List ℕ) (n : ℕ) (t : List ℕ) {r : Records} → n ≤ length s → records_of true (take n s) ≡ r → keep_of s n t ≡ keep_whole s n t r
unfolding keep_of
keep-in s n t h e = simp (le-ltb (length s) n h) (ap (keep_whole s n t) e)

module _ (s : List ℕ) (n : ℕ) (t : List ℕ) (m : ℕ) (u v : List ℕ) where
  kept_whole : n ≤ length s → (r : Records) → records_of true (take n s) ≡ r → keep_whole s n t r ≡ (Ok m, u, v) → Kept s n t m u v
  kept_whole h (whole rs) e d =
      let p : Ok (length (joined (keep_last rs))) ≡ Ok m = ap (λ (q : Keeping × List ℕ × List ℕ). q.0) d in
      record {
        within = h;
        records = rs;
        read = e;
        count = cc;
        slice = sym (ap (λ (q : Keeping × List ℕ × List ℕ). q.1) d);
        scratch = sym (ap (λ (q : Keeping × List ℕ × List ℕ). q.2) d);
      }
  kept_whole h (faulty f p) e d =
      let q : Err (reading_error.Faulty f p) ≡ Ok m = ap (λ (q : Keeping × List ℕ × List ℕ). q.0) d in
      let z : ◌≡◌ {A = ℕ} 0 1 = cc in absurd (omega arith)

  kept_by : (b : Bool) → ltb (length s) n ≡ b → keep_of s n t ≡ (Ok m, u, v) → Kept s n t m u v
  kept_by true e d =
      let q : Err reading_error.Overlong ≡ Ok m = ap (λ (q : Keeping × List ℕ × List ℕ). q.0) (sym (keep-over s n t (ltb-true (length s) n e)) ∙ d) in
      let z : ◌≡◌ {A = ℕ} 0 1 = cc in absurd (omega arith)
  kept_by false e d =
      let h = ltb-false (length s) n e in
      kept_whole h (records_of true (take n s)) refl (sym (keep-in s n t h refl) ∙ d)

  pub kept : keep_of s n t ≡ (Ok m, u, v) → Kept s n t m u v
  kept d = kept_by (ltb (length s) n) refl d

  module _ (k : Kept s n t m u v) where
    -- What is kept, and what is behind it.
    abbrev b : List ℕ
    b = joined (keep_last k.records)

    abbrev behind : List ℕ
    behind = replicate (n - length b) 0 ++ drop n s

    front : take m u ≡ b
    front = ap (take m) k.slice ∙ take_at b behind m (sym k.count)

    long : m ≤ length u
    long =
        let c = k.count in
        let l : length u ≡ length b + length behind = ap length k.slice ∙ length-append b behind in
        omega arith

    read_kept : records_of true (take m u) ≡ whole (keep_last k.records)
    read_kept =
        let o = (sound true 0 (take n s) k.records k.read).0 in
        ap (records_of true) front ∙ complete true 0 (ones-kept true k.records o)

    pub within-n : m ≤ n
    within-n =
        let c = k.count in
        let e = (sound true 0 (take n s) k.records k.read).1 in
        let l = length-take-le n s k.within in
        let q = ap length e in
        let h = kept-shorter k.records in
        omega arith

    pub slice_is : u ≡ take m u ++ (replicate (n - m) 0 ++ drop n s)
    slice_is = k.slice ∙ (λ j. sym front j ++ (replicate (n - sym k.count j) 0 ++ drop n s))

    pub reads_same : (g : ℕ) → read_of true u m g ≡ read_of true s n g
    reads_same g =
        read-in true u m g long
        ∙ ap (tell g) read_kept
        ∙ ap shown (last-kept g [] k.records)
        ∙ sym (read-in true s n g k.within ∙ ap (tell g) k.read)

    -- There are no zeros to be put behind what was kept, and what is behind it stays.
    filled-again : filled b u m ≡ u
    filled-again =
        let c = k.count in
        let z : m - length b ≡ 0 = omega arith in
        ap (λ (j : ℕ). b ++ (replicate j 0 ++ drop m u)) z
        ∙ ap (λ (l : List ℕ). b ++ l) (ap (drop m) k.slice ∙ drop_at b behind m (sym c))
        ∙ sym k.slice

    pub kept_again : (w : List ℕ) → keep_of u m w ≡ (Ok m, u, replicate (length w) 0)
    kept_again w =
        let e : joined (keep_last (keep_last k.records)) ≡ b = ap joined (keep-twice k.records) in
        keep-in u m w long read_kept
        ∙ ap (λ (x : List ℕ). (Ok (length x), filled x u m, replicate (length w) 0)) e
        ∙ (λ j. (Ok (sym k.count j), filled-again j, replicate (length w) 0))
