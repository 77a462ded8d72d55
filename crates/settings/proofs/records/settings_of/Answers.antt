-- Each field from its bytes.
use Rattle.settings.proofs.Signed.{given_back}
use lib.ListN.{get_or}
use Rattle.settings.specs.Records.{settings_of}
use borrow.Author.Rules.{rules}
use Rattle.settings.proofs.records.settings_of.Goals as goal

pub returns : goal.returns
unfolding settings_of
returns c =
    let x = given_back c.axis_of.ensures (search rules) in
    let y = given_back c.axis_of-2.ensures (search rules) in
    let z = given_back c.axis_of-3.ensures (search rules) in
    let b = c.args.b.now in
    λ i. record { edge = get_or b 10 0; kind = get_or b 11 0; x = x i; y = y i; z = z i }
