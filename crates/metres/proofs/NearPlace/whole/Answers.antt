-- `metres::NearPlace::whole` meets its contract.
use Rattle.std.proofs.Common.{◌∙◌}
use Rattle.metres.proofs.Laws.Near.{cut_low, cut_high, cut-is}
use Rattle.metres.proofs.NearPlace.whole.Goals as goal

pub truncating_f64_to_u64-requires-clause-lower_bound : goal.truncating_f64_to_u64-requires-clause-lower_bound
truncating_f64_to_u64-requires-clause-lower_bound c = cut_low c.args.self.metres c.size.result c.args.self.near c.size.ensures

pub truncating_f64_to_u64-requires-clause-upper_bound : goal.truncating_f64_to_u64-requires-clause-upper_bound
truncating_f64_to_u64-requires-clause-upper_bound c = cut_high c.args.self.metres c.size.result c.args.self.near c.size.ensures

pub returns : goal.returns
returns c =
    let s = c.size.ensures in
    let k = c.args.self.near in
    c.truncating_f64_to_u64.ensures ∙ cut-is c.size.result _ s.known.finite s.same k.near
