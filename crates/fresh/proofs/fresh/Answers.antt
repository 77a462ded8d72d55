-- `fresh` meets its contract.
use native.Mathlib.Omega.{arith}
use mathlib.Core.Path.{sym, ◌∙◌}
use lib.ListN.{length-set}
use Rattle.layout.specs.Widths.{next_id_at}
use Rattle.fresh.specs.Laws.Image.{header-within, fresh-short, fresh-unknown, fresh-late, fresh-done}
use Rattle.fresh.proofs.fresh.Goals as goal

pub returns-then-state-n : goal.returns-then-state-n
returns-then-state-n c =
    let a = c.args in
    let n = c.state_len-n in
    fresh-short a.state.now a.first_id a.kind n.result n.ensures c.if-state-n.true

pub returns-then-not-is_kind : goal.returns-then-not-is_kind
returns-then-not-is_kind c =
    let k = c in
    let b = k in
    let n = b.state_len-n in
    let a = b.args in
    fresh-unknown a.state.now a.first_id a.kind n.result n.ensures b.if-state-n.false (sym k.is_kind.ensures ∙ c.if-not-is_kind.true)

pub returns-then-first_id-gt-MOST_NEXT_ID : goal.returns-then-first_id-gt-MOST_NEXT_ID
returns-then-first_id-gt-MOST_NEXT_ID c =
    let k = c in
    let b = k in
    let n = b.state_len-n in
    let a = b.args in
    fresh-late a.state.now a.first_id a.kind n.result n.ensures b.if-state-n.false (sym k.is_kind.ensures ∙ c.if-not-is_kind.false) (omega (arith, c.if-first_id-gt-MOST_NEXT_ID.true))

pub bounds-state-6 : goal.bounds-state-6
bounds-state-6 c = omega (arith, header-within)

pub bounds-state-7 : goal.bounds-state-7
bounds-state-7 c =
    let z = c.write_zeros in
    let a = c.args in
    omega (arith, header-within, length-set z.new.s next_id_at a.first_id)

pub returns : goal.returns
returns c =
    let z = c.write_zeros in
    let f = c in
    let k = f in
    let b = k in
    let n = b.state_len-n in
    let a = b.args in
    fresh-done a.state.now a.first_id a.kind n.result n.ensures b.if-state-n.false (sym k.is_kind.ensures ∙ f.if-not-is_kind.false) (omega (arith, f.if-first_id-gt-MOST_NEXT_ID.false)) z.new.s z.ensures
