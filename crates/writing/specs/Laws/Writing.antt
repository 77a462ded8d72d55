-- The words of a state, written part by part.
use Rattle.std.specs.Prelude.{ℕ, ◌+◌, ◌≤◌, ◌≡◌, List, ◌++◌, length, take, drop}
use Rattle.std.proofs.Common.{arith, sym, ap, ◌∙◌, append_assoc, length-append, length-take-le, take_at, drop-drop}
use Rattle.std.proofs.Math.Seq.{drop-append-add}
use Rattle.table.specs.Moves.{over}
use Rattle.layout.specs.Widths.{header_len}
use Rattle.layout.specs.State.{entities_len, cells_len, net_len, ids_len, groups_len, entities_from, cells_from, occupied_from, emptied_from, ids_from, groups_from, state_len}
use Rattle.layout.proofs.Laws.Lengths.{header-end, entities-end, cells-end, occupied-end, emptied-end, ids-end, groups-end}
use Rattle.writing.specs.Parts.{front_words, Begun}

-- Words over the front of others.
pub over-front : (s row : List ℕ) → over s 0 row ≡ row ++ drop (length row) s
unfolding over
over-front s row = let e : 0 + length row ≡ length row = omega arith in ap (λ (m : ℕ). row ++ drop m s) e

-- A row that is written behind the words p.
over-next : (p d row : List ℕ) (at : ℕ) → length p ≡ at → over (p ++ d) at row ≡ (p ++ row) ++ drop (length row) d
unfolding over
over-next p d row at e =
    (λ i. take_at p d at e i ++ (row ++ drop (sym e i + length row) (p ++ d)))
    ∙ ap (λ (l : List ℕ). p ++ (row ++ l)) (drop-append-add p d (length row))
    ∙ sym (append_assoc p row (drop (length row) d))

-- The first words.
begun_first : (w head u : List ℕ) (at : ℕ) → length head ≡ at → u ≡ over w 0 head → Begun w u head at
begun_first w head u at l e = record { is = e ∙ over-front w head ∙ ap (λ (n : ℕ). head ++ drop n w) l; long = l }

-- The first words of a table, written behind what is there.
begun-next : {w u p : List ℕ} {at : ℕ} → Begun w u p at → (src : List ℕ) (len next : ℕ) → len ≤ length src → at + len ≡ next
    → (v : List ℕ) → v ≡ over u at (take len src) → Begun w v (p ++ take len src) next
begun-next {w} {u} {p} {at} g src len next h e v q =
    let k : length (take len src) ≡ len = length-take-le len src h in
    record {
      is = q ∙ (λ i. over (g.is i) at (take len src)) ∙ over-next p (drop at w) (take len src) at g.long
          ∙ ap (λ (d : List ℕ). (p ++ take len src) ++ d) (ap (λ (n : ℕ). drop n (drop at w)) k ∙ drop-drop len at w ∙ ap (λ (n : ℕ). drop n w) e);
      long = length-append p (take len src) ∙ (λ i. g.long i + k i) ∙ e;
    }

-- The header, the map and both net lists are written.
pub front-written : (w head ents cells occ emp : List ℕ) → length head ≡ header_len → entities_len ≤ length ents → cells_len ≤ length cells → net_len ≤ length occ → net_len ≤ length emp
    → (u v x y z : List ℕ) → u ≡ over w 0 head → v ≡ over u entities_from (take entities_len ents) → x ≡ over v cells_from (take cells_len cells) → y ≡ over x occupied_from (take net_len occ)
    → z ≡ over y emptied_from (take net_len emp) → Begun w z (front_words head ents cells occ emp) ids_from
unfolding front_words
front-written w head ents cells occ emp h he hc ho hm u v x y z qu qv qx qy qz =
    let s0 = begun_first w head u entities_from (h ∙ header-end) qu in
    let s1 = begun-next s0 ents entities_len cells_from he entities-end v qv in
    let s2 = begun-next s1 cells cells_len occupied_from hc cells-end x qx in
    let s3 = begun-next s2 occ net_len emptied_from ho occupied-end y qy in
    begun-next s3 emp net_len ids_from hm emptied-end z qz

-- The cells with an id and the groups are written behind them.
pub back-written : (w u p ids groups : List ℕ) → Begun w u p ids_from → ids_len ≤ length ids → groups_len ≤ length groups
    → (v x : List ℕ) → v ≡ over u ids_from (take ids_len ids) → x ≡ over v groups_from (take groups_len groups) → Begun w x ((p ++ take ids_len ids) ++ take groups_len groups) state_len
back-written w u p ids groups s hi hg v x qv qx =
    begun-next (begun-next s ids ids_len groups_from hi ids-end v qv) groups groups_len state_len hg groups-end x qx
