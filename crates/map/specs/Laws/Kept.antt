-- What is kept through no step, and through one step after another.
use Rattle.std.specs.Prelude.{refl}
use Rattle.std.proofs.Common.{◌∙◌}
use Rattle.map.specs.declared.Tables.{Tables}
use Rattle.map.specs.Tables.{Kept}

-- No step.
pub kept-same : (t : Tables) → Kept t t
kept-same t =
    record {
      kind = refl;
      entities-lent = refl;
      cells-lent = refl;
      crowd-lent = refl;
      occupied-lent = refl;
      emptied-lent = refl;
      entities-long = refl;
      cells-long = refl;
      crowd-long = refl;
      occupied-long = refl;
      emptied-long = refl;
    }

-- Two steps.
pub kept-both : {t u v : Tables} → Kept u v → Kept t u → Kept t v
kept-both a b =
    record {
      kind = a.kind ∙ b.kind;
      entities-lent = a.entities-lent ∙ b.entities-lent;
      cells-lent = a.cells-lent ∙ b.cells-lent;
      crowd-lent = a.crowd-lent ∙ b.crowd-lent;
      occupied-lent = a.occupied-lent ∙ b.occupied-lent;
      emptied-lent = a.emptied-lent ∙ b.emptied-lent;
      entities-long = a.entities-long ∙ b.entities-long;
      cells-long = a.cells-long ∙ b.cells-long;
      crowd-long = a.crowd-long ∙ b.crowd-long;
      occupied-long = a.occupied-long ∙ b.occupied-long;
      emptied-long = a.emptied-long ∙ b.emptied-long;
    }
