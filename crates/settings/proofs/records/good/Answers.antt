-- Each test says which case of the definition holds.
use Rattle.settings.specs.Settings.{good_of}
use mathlib.Core.Path.{sym}
use Rattle.settings.proofs.records.good.Goals as goal

pub returns-then-not-edge_ok : goal.returns-then-not-edge_ok
unfolding good_of
returns-then-not-edge_ok c = simp (sym c.edge_ok.ensures, c.if-not-edge_ok.true)

pub returns-then-not-kind_ok : goal.returns-then-not-kind_ok
unfolding good_of
returns-then-not-kind_ok c = simp (sym c.edge_ok.ensures, c.if-not-edge_ok.false, sym c.kind_ok.ensures, c.if-not-kind_ok.true)

pub returns-then-not-origin_ok : goal.returns-then-not-origin_ok
unfolding good_of
returns-then-not-origin_ok c =
    simp (sym c.edge_ok.ensures, c.if-not-edge_ok.false, sym c.kind_ok.ensures, c.if-not-kind_ok.false, sym c.origin_ok.ensures, c.if-not-origin_ok.true)

pub returns : goal.returns
unfolding good_of
returns c =
    simp (sym c.edge_ok.ensures, c.if-not-edge_ok.false, sym c.kind_ok.ensures, c.if-not-kind_ok.false, sym c.origin_ok.ensures, c.if-not-origin_ok.false)
