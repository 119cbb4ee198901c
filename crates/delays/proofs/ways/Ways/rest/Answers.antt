-- `rest` meets its contract. Assumes nothing.
use Rattle.std.proofs.Common.{true, false, ◌∙◌}
use Rattle.delays.proofs.WayOutLaws.{onward, led_or_counts}
use Rattle.delays.proofs.NeedLaws.{rest_next, rest_words}
use Rattle.delays.proofs.ways.Ways.rest.Goals as goal

pub slice_bounds-result-count : goal.slice_bounds-result-count
slice_bounds-result-count c =
    let held = rw (← c.self.view_is) at c.requires.held in
    let g = c.self.invariant in
    let led = led_or_counts g (rw (← c.self.view_is) at c.requires.led) in
    let o = onward g.lists.links c.self.inside.written.now led (rw (← c.self.view_is) at c.requires.ahead) in
    let is = c.from-m.ensures ∙ (rw (c.label-label.ensures, ← c.self.view_is) at c.count.ensures) in
    (rest_next false o held.lefts is).0

pub slice_bounds-result-start : goal.slice_bounds-result-start
slice_bounds-result-start c =
    let held = rw (← c.self.view_is) at c.requires.held in
    let g = c.self.invariant in
    let led = led_or_counts g (rw (← c.self.view_is) at c.requires.led) in
    let o = onward g.lists.links c.self.inside.written.now led (rw (← c.self.view_is) at c.requires.ahead) in
    let is = c.from-m.ensures ∙ (rw (c.label-label.ensures, ← c.self.view_is) at c.count.ensures) in
    (rest_next false o held.lefts is).0

pub slice_bounds-result-count-2 : goal.slice_bounds-result-count-2
slice_bounds-result-count-2 c =
    let held = rw (← c.self.view_is) at c.requires.held in
    let g = c.self.invariant in
    let led = led_or_counts g (rw (← c.self.view_is) at c.requires.led) in
    let o = onward g.lists.links c.self.inside.written.now led (rw (← c.self.view_is) at c.requires.ahead) in
    let is = c.from-n.ensures ∙ (rw (c.label-label.ensures, ← c.self.view_is) at c.count-2.ensures) in
    (rest_next true o held.rights is).0

pub slice_bounds-result-start-2 : goal.slice_bounds-result-start-2
slice_bounds-result-start-2 c =
    let held = rw (← c.self.view_is) at c.requires.held in
    let g = c.self.invariant in
    let led = led_or_counts g (rw (← c.self.view_is) at c.requires.led) in
    let o = onward g.lists.links c.self.inside.written.now led (rw (← c.self.view_is) at c.requires.ahead) in
    let is = c.from-n.ensures ∙ (rw (c.label-label.ensures, ← c.self.view_is) at c.count-2.ensures) in
    (rest_next true o held.rights is).0

pub returns-clause-held : goal.returns-clause-held
returns-clause-held c =
    let held = rw (← c.self.view_is) at c.requires.held in
    let g = c.self.invariant in
    let led = led_or_counts g (rw (← c.self.view_is) at c.requires.led) in
    let o = onward g.lists.links c.self.inside.written.now led (rw (← c.self.view_is) at c.requires.ahead) in
    let m = c.from-m.ensures ∙ (rw (c.label-label.ensures, ← c.self.view_is) at c.count.ensures) in
    let n = c.from-n.ensures ∙ (rw (c.label-label.ensures, ← c.self.view_is) at c.count-2.ensures) in
    rw (← c.self.view_is) (record { lefts = (rest_next false o held.lefts m).1; rights = (rest_next true o held.rights n).1 })

pub returns-clause-words : goal.returns-clause-words
returns-clause-words c =
    let g = c.self.invariant in
    let led = led_or_counts g (rw (← c.self.view_is) at c.requires.led) in
    let o = onward g.lists.links c.self.inside.written.now led (rw (← c.self.view_is) at c.requires.ahead) in
    let m = c.from-m.ensures ∙ (rw (c.label-label.ensures, ← c.self.view_is) at c.count.ensures) in
    let n = c.from-n.ensures ∙ (rw (c.label-label.ensures, ← c.self.view_is) at c.count-2.ensures) in
    rw (← c.self.view_is)
    (λ w. record { lefts = (rest_words false o w.lefts m).1; rights = (rest_words true o w.rights n).1 })
