-- A well-formed description has no more records than the limits say, of those that a row's number names.
use Prim.Native.Nat.{ℕ, ◌≤◌}
use mathlib.Core.List.{List}
use lib.ListN.{length}
use Rattle.format.specs.Numbers.{most_fields, most_names, most_constructors, most_expressions}
use Rattle.format.specs.Description.{Description, description}
use Rattle.format.specs.Check.{WellFormed}
use Rattle.format.specs.declared.Layout.{Layout}
use Rattle.format.proofs.Lists.{fields-length, names-length, constructors-length, expressions-length}

pub record Few (d : Description) : Type 0 where
  pub fields : length d.fields ≤ most_fields
  pub names : length d.names ≤ most_names
  pub constructors : length d.constructors ≤ most_constructors
  pub expressions : length d.expressions ≤ most_expressions

pub few-of : (b : List ℕ) (l : Layout) → WellFormed b l → Few (description b l)
few-of b l f =
    record {
      fields = rw (fields-length b l) f.room.few_fields;
      names = rw (names-length b l) f.room.few_names;
      constructors = rw (constructors-length b l) f.room.few;
      expressions = rw (expressions-length b l) f.room.few_expressions;
    }
