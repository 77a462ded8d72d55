-- The two readers: where the reader of version 1 meets no record of version 2, they agree.
use Rattle.std.specs.Prelude.{Ok, Err}
use Rattle.settings.specs.Answers.{Check}
use Rattle.settings.specs.declared.kinds.ReadError.TheVariants as reading_error
use Rattle.std.specs.Prelude.{ℕ, zero, suc, ◌+◌, ◌<◌, ◌≤◌, ◌≡◌, refl, Bool, true, false, cond, not, List, [], ◌∷◌, ◌⊎◌, length, take, drop, ltb, eqb}
use Rattle.std.proofs.Common.{arith, sym, ap, ◌∙◌, inl, inr, ltb-true, ltb-false}
use Rattle.settings.specs.declared.kinds.Settings.{Settings}
use Rattle.settings.specs.declared.kinds.Fault.{Fault}
use Rattle.settings.specs.declared.kinds.Fault.TheVariants.{NewerRecord, BadMark, CutEnd, BadEdge, BadKind, BadOrigin}
use Rattle.settings.specs.Settings.{edge_ok, kind_ok, origin_ok, good_of}
use Rattle.settings.specs.Records.{size_of, settings_of, check_of}
use Rattle.settings.specs.Parsing.{faulty, after}
use Rattle.settings.specs.Reading.{tell, read_of}
use Rattle.settings.proofs.Laws.Parsing.{from, from-none, from-bad, from_more, shorter}
use Rattle.settings.proofs.Laws.Reading.{read-in, read-over}

-- The first record is one of version 2, to the reader of version 1, or both readers say the same of it.
check-by : (lone : Bool) (bad newer : Bool) (rest : Check)
    → (cond lone (Err CutEnd) (cond bad (Err BadMark) (cond newer (Err NewerRecord) rest)) ≡ Err NewerRecord)
    ⊎ (cond lone (Err CutEnd) (cond bad (Err BadMark) (cond newer (Err NewerRecord) rest)) ≡ cond lone (Err CutEnd) (cond bad (Err BadMark) rest))
check-by true bad newer rest = inr refl
check-by false true newer rest = inr refl
check-by false false true rest = inl refl
check-by false false false rest = inr refl

checks : (b : List ℕ) → (check_of false b ≡ Err NewerRecord) ⊎ (check_of false b ≡ check_of true b)
unfolding check_of
checks b = check-by (ltb (length b) 2) (eqb (size_of b) 0) (eqb (size_of b) 24) (cond (ltb (length b) (size_of b)) (Err CutEnd) (good_of (settings_of (take (size_of b) b))))

-- Both readers say the same of bytes, or the reader of version 1 says "newer record".
Agree : ℕ → List ℕ → Type 0
Agree at b = ((p : ℕ) × (from false at b ≡ faulty NewerRecord p)) ⊎ (from false at b ≡ from true at b)

agree-more : (at : ℕ) (b : List ℕ) → 0 < length b → check_of false b ≡ Ok tt → check_of true b ≡ Ok tt → Agree (at + size_of b) (drop (size_of b) b) → Agree at b
unfolding Agree
agree-more at b h e d (inl x) = inl (x.0, from_more false at b h e ∙ ap (after (take (size_of b) b)) x.1)
agree-more at b h e d (inr x) = inr (from_more false at b h e ∙ ap (after (take (size_of b) b)) x ∙ sym (from_more true at b h d))

agree-check : (k at : ℕ) (b : List ℕ) → 0 < length b → length b ≤ suc k → ((at : ℕ) (b : List ℕ) → length b ≤ k → Agree at b)
    → (c : Check) → check_of true b ≡ c → check_of false b ≡ check_of true b → Agree at b
unfolding Agree
agree-check k at b h l i (Err f) d e = inr (from-bad false at b h (e ∙ d) ∙ sym (from-bad true at b h d))
agree-check k at b h l i (Ok tt) d e =
    let s = shorter true b d in
    agree-more at b h (e ∙ d) d (i (at + size_of b) (drop (size_of b) b) (omega arith))

agree-by : (k at : ℕ) (b : List ℕ) → 0 < length b → length b ≤ suc k → ((at : ℕ) (b : List ℕ) → length b ≤ k → Agree at b)
    → (check_of false b ≡ Err NewerRecord) ⊎ (check_of false b ≡ check_of true b) → Agree at b
unfolding Agree
agree-by k at b h l i (inl e) = inl (at, from-bad false at b h e)
agree-by k at b h l i (inr e) = agree-check k at b h l i (check_of true b) refl e

agree : (k at : ℕ) (b : List ℕ) → length b ≤ k → Agree at b
unfolding Agree
agree zero at b l = inr (from-none false at b (omega arith) ∙ sym (from-none true at b (omega arith)))
agree (suc k) at [] l = inr (from-none false at [] refl ∙ sym (from-none true at [] refl))
agree (suc k) at (x ∷ b) l = agree-by k at (x ∷ b) (omega arith) l (λ at b l. agree k at b l) (checks (x ∷ b))

versions-in : (s : List ℕ) (n g : ℕ) → n ≤ length s → Agree 0 (take n s) → ((p : ℕ) × (read_of false s n g ≡ Err (reading_error.Faulty NewerRecord p))) ⊎ (read_of false s n g ≡ read_of true s n g)
unfolding Agree
versions-in s n g h (inl x) = inl (x.0, read-in false s n g h ∙ ap (tell g) x.1)
versions-in s n g h (inr x) = inr (read-in false s n g h ∙ ap (tell g) x ∙ sym (read-in true s n g h))

pub versions-by : (s : List ℕ) (n g : ℕ) (t : Bool) → ltb (length s) n ≡ t → ((p : ℕ) × (read_of false s n g ≡ Err (reading_error.Faulty NewerRecord p))) ⊎ (read_of false s n g ≡ read_of true s n g)
versions-by s n g true e = let h = ltb-true (length s) n e in inr (read-over false s n g h ∙ sym (read-over true s n g h))
versions-by s n g false e = versions-in s n g (ltb-false (length s) n e) (agree (length (take n s)) 0 (take n s) (omega arith))

other : (f : Fault) (y : Check) (t : Bool) → (◌≡◌ {A = Check} (Err f) (Err NewerRecord) → ⊥) → (y ≡ Err NewerRecord → ⊥) → cond t (Err f) y ≡ Err NewerRecord → ⊥
other f y true n m e = n e
other f y false n m e = m e

no_way : {A : Type 0} → ◌≡◌ {A = ℕ} 0 1 → A
no_way z = absurd (omega arith)

good-never : (a : Settings) → good_of a ≡ Err NewerRecord → ⊥
unfolding good_of
good-never a e =
    other BadEdge _ (not (edge_ok a.edge)) (λ x. no_way (cc))
    (other BadKind _ (not (kind_ok a.kind)) (λ x. no_way (cc))
    (other BadOrigin _ (not (origin_ok a)) (λ x. no_way (cc)) (λ x. no_way (cc)))) e

pub check-never : (b : List ℕ) → check_of true b ≡ Err NewerRecord → ⊥
unfolding check_of
check-never b e =
    other CutEnd _ (ltb (length b) 2) (λ x. no_way (cc))
    (other BadMark _ (eqb (size_of b) 0) (λ x. no_way (cc))
    (other CutEnd _ (ltb (length b) (size_of b)) (λ x. no_way (cc)) (good-never (settings_of (take (size_of b) b))))) e
