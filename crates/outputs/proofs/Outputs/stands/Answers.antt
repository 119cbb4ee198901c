-- `stands` meets its contract. Assumes nothing.
use Rattle.std.proofs.Common.{ℕ, ◌+◌, ◌*◌, refl, sym, ◌∙◌, get_or, arith}
use mathlib.Core.Bool.{false≢true}
use Rattle.transducer.specs.Transition.{firsts}
use Rattle.pathwords.proofs.ComparingLaws.{stands_more, stands_not}
use Rattle.outputs.specs.Outputs.{entry, count_at}
use Rattle.outputs.proofs.OutputLaws.{length_codes}
use Rattle.outputs.proofs.PutLaws.{part_place}
use Rattle.outputs.proofs.Outputs.stands.Goals as goal

pub returns-then-word-at : goal.returns-then-word-at
returns-then-word-at c =
    rw (← c.self.view_is)
    (λ e. absurd (false≢true e), λ s. absurd (omega (arith, s.within, length_codes c.self.inside.places c.args.l)))

pub loop-j-init : goal.loop-j-init
unfolding firsts
loop-j-init c = (omega arith, refl)

pub returns-then-word-at-2 : goal.returns-then-word-at-2
returns-then-word-at-2 c =
    let code = λ (i : ℕ). get_or c.self.inside.places (c.args.l * entry + 1 + i) 0 in
    let is = part_place c.self.inside.places (c.args.l * entry + 1) (count_at c.self.inside.places c.args.l) c.loop-j.j (omega arith) in
    rw (← c.self.view_is)
    (λ e. absurd (false≢true e), λ h. absurd (stands_not c.args.word.now c.args.at code _ c.loop-j.j (omega arith) (λ e. c.if-word-at-2.true (e ∙ sym is)) h.is))

pub loop-j-preserved : goal.loop-j-preserved
loop-j-preserved c =
    let code = λ (i : ℕ). get_or c.self.inside.places (c.args.l * entry + 1 + i) 0 in
    let is = part_place c.self.inside.places (c.args.l * entry + 1) (count_at c.self.inside.places c.args.l) c.loop-j.j (omega arith) in (
      c.loop-j.invariant.0,
      rw (← c.self.view_is)
          (stands_more c.args.word.now c.args.at code c.loop-j.j (omega arith) (rw (← c.self.view_is) at c.loop-j.invariant.1) (c.if-word-at-2.false ∙ is)),
    )
