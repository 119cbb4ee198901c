-- `target` meets its contract: where the word has another code the transition leads nowhere, else it goes on. Assumes nothing.
use Rattle.std.proofs.Common.{◌<◌, sym, ◌∙◌, arith}
use Rattle.transducer.specs.Limits.{most_states}
use Rattle.product.specs.Machine.{to_of}
use Rattle.wordsearch.proofs.MoveLaws.{leads_reading, leads_needs}
use Rattle.wordsearch.proofs.target.Goals as goal

pub returns-then-from-read : goal.returns-then-from-read
returns-then-from-read c =
    let code = c.key-read.ensures in
    λ v x. c.if-from-read.true (c.from.ensures ∙ (leads_needs (λ z. c.if-read-eq0.false (code ∙ z)) x).1 ∙ sym code)

pub returns : goal.returns
returns c =
    let to = c.from-to.ensures ∙ c.to.ensures in
    let code = c.key-read.ensures in
    let state : to_of c.args.m.now c.args.l < most_states = c.kept.ensures.to_state _ c.requires.leaves.used in (
      omega arith,
      leads_reading state c.requires.leaves (λ z. c.if-read-eq0.false (code ∙ z)) c.if-input-position.false
          (sym c.from.ensures ∙ c.if-from-read.false ∙ code) (omega arith),
    )
