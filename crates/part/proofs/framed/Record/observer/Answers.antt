use Rattle.std.proofs.Common.{◌≡◌, refl, arith}
use Rattle.part.specs.Record.{form_of, observer}
use Rattle.part.proofs.Fields.{level-inside}
use Rattle.part.proofs.framed.Record.observer.Goals as goal

pub overflow_add-at : goal.overflow_add-at
overflow_add-at c =
    let inside = (level-inside _ _ c.args.self.framed c.requires).0 in
    let form : c.form.result.levels ≡ (form_of c.args.self.bytes.now).levels = let e = c.form.ensures.value in cc in
    omega arith

pub bounds-self-at : goal.bounds-self-at
bounds-self-at c =
    let inside = (level-inside _ _ c.args.self.framed c.requires).0 in
    rw c.form.ensures.value inside

pub returns : goal.returns
unfolding observer
returns c = rw c.form.ensures.value refl
