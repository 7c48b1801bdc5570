use Rattle.std.proofs.Common.{ℕ, ◌≡◌, refl, Bool, true, false, cond}
use Rattle.part.specs.declared.format.Form.{Form}
use Rattle.part.specs.Format.{lists_at, header, one_observer, several_observers, limited_part}
use Rattle.part.proofs.format.Form.choice.Goals as goal

-- The row of a kind, number by number.
by_number : (several limited : Bool) (lead : ℕ) → ◌≡◌ {A = Form} (record {
  observers = cond several lead 1;
  levels = cond several lists_at header;
  listed = cond several lead 0;
  columns = cond several lead (cond limited 2 1);
  finer = cond several 0 (cond limited 1 0);
}) (cond several (several_observers lead) (cond limited limited_part one_observer))
by_number true limited lead = refl
by_number false true lead = refl
by_number false false lead = refl

pub returns : goal.returns
returns c =
    rw (
      c.choose-7.ensures,
      c.choose-6.ensures,
      c.choose-5.ensures,
      c.choose-4.ensures,
      c.choose-3.ensures,
      c.choose-2.ensures,
      c.choose.ensures,
    ) (by_number c.args.several c.args.limited c.args.lead)
