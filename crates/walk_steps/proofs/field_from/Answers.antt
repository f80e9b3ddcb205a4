use Prim.Native.Nat.{ℕ, ◌+◌}
use mathlib.Core.Bool.{true}
use mathlib.Core.Path.{◌≡◌, ◌∙◌, ap}
use native.Mathlib.Omega.{arith}
use lib.ListN.{length, get_or}
use Rattle.format.specs.Description.{no_field}
use Rattle.format.specs.Rules.{field_ok}
use Rattle.fields.proofs.Values.{readable, named-within}
use Rattle.decoding_spec.specs.Walk.{width_of}
use Rattle.decoding_theorems.proofs.Records.{field-ok}
use Rattle.setting.specs.Fixed.{setting_in}
use Rattle.setting.proofs.Laws.{obeyed-in, total-in}
use Rattle.walk_steps.proofs.Steps.{near-end, field-full, field-far, field-short, field-shown}
use Rattle.walk_steps.proofs.field_from.Goals.{After-field-field, After-width_of}
use Rattle.walk_steps.proofs.field_from.Goals as goal

-- `walk_steps::field_from` meets its contract. Assumes nothing.
-- the record at the index, and where it ends
found : (c : After-field-field)
    → c.field-field.result ≡ get_or (setting_in c.args.desc.now c.args.fixed.now).description.fields c.args.index no_field
found c = rw c.from.ensures at c.field-field.ensures

end_is : (c : After-width_of)
    → c.args.place + c.width_of.result
    ≡ c.args.place + width_of (get_or (setting_in c.args.desc.now c.args.fixed.now).description.fields c.args.index no_field)
end_is c = ap (λ (w : ℕ). c.args.place + w) (c.width_of.ensures.0 ∙ ap width_of (rw c.from.ensures at c.field-field.ensures))

good : (c : After-field-field)
    → field_ok (length (setting_in c.args.desc.now c.args.fixed.now).description.names) c.field-field.result ≡ true
good c =
    rw (found c) (field-ok _ (obeyed-in _ _ c.requires.fixed) c.args.index c.requires.own)

pub returns-then-state-ge-ROWS : goal.returns-then-state-ge-ROWS
returns-then-state-ge-ROWS c = field-full _ _ _ _ _ _ _ c.if-state-ge-ROWS.true

pub returns-then-place-end : goal.returns-then-place-end
returns-then-place-end c = field-far _ _ _ _ _ _ c.if-state-ge-ROWS.false _ _ (end_is (goal.at.returns-then-place-end c).After-width_of) c.if-place-end.true

pub returns-then-fixed-end : goal.returns-then-fixed-end
returns-then-fixed-end c =
    field-short _ _ _ _ _ _ c.if-state-ge-ROWS.false _ (end_is (goal.at.returns-then-fixed-end c).After-width_of) c.if-place-end.false _ (rw total-in c.if-fixed-end.true)

pub show-requires : goal.show-requires
show-requires c =
    let f = c.field-field.result in
    let end = c.args.place + c.width_of.result in (
      c.requires.fixed,
      record {
        readable = readable _ _ (good (goal.at.show-requires c).After-field-field);
        here = λ e. let w : c.width_of.result ≡ f.width = c.width_of.ensures.0 ∙ simp e in omega (arith, c.requires.code, total-in c.args.desc.now c.args.fixed.now, c.if-fixed-end.false);
        name = λ e. named-within _ f _ _ (good (goal.at.show-requires c).After-field-field) e;
        room = c.if-state-ge-ROWS.false;
        near = rw (← c.width_of.ensures.0) (near-end c.args.place end c.if-place-end.false);
      },
    )

pub returns : goal.returns
returns c =
    let h = c.show.ensures in
    rw (field-shown (setting_in c.args.desc.now c.args.fixed.now) _ _ c.args.code.now c.args.place c.args.state c.if-state-ge-ROWS.false _ (end_is (goal.at.returns c).After-width_of) c.if-place-end.false (omega (arith, total-in c.args.desc.now c.args.fixed.now, c.if-fixed-end.false)))
    (rw (found (goal.at.returns c).After-field-field) at h)

pub overflow_cast-result : goal.overflow_cast-result
overflow_cast-result c = omega (arith, c.requires.close)

pub overflow_cast-result-then-fixed-end : goal.overflow_cast-result-then-fixed-end
overflow_cast-result-then-fixed-end c = omega (arith, c.requires.close)
