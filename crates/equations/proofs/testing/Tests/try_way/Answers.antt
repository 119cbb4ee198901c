-- `try_way` meets its contract. Assumes nothing.
use Rattle.std.proofs.Common.{◌≡◌, ◌≢◌, ℕ, ◌+◌, ◌-◌, false, refl, ap, get_or, arith}
use Rattle.std.specs.Prelude.{Option, Some, None, MatchOption, IsSome}
use Rattle.equations.specs.Loops.{TestLists}
use Rattle.equations.proofs.AlongLaws.{along_on, along_more}
use Rattle.equations.proofs.testing.Tests.try_way.Goals as goal

-- there is a next pair
there : {n : ℕ} (r : Option ℕ) → MatchOption r (n ≡ 0) (λ next. n ≡ next + 1) → n ≢ 0 → IsSome r
there None e h = absurd (h e)
there (Some x) e h = refl

pub unwrap-next-requires : goal.unwrap-next-requires
unwrap-next-requires c =
    let m = rw c.self.view_is at c.self.invariant in
    let w = ap (λ (x : TestLists). x.ways) c.self.view_is in
    let z = c.loop-tested.invariant.along in
    let o = along_on m z (rw w at c.is_level.ensures) (get_or c.loop-tested.tested c.loop-tested.i false) c.loop-tested-test.true in
    there c.next.result c.next.ensures (rw w (λ e. omega (arith, o.next_is, e)))

pub rest-rest-requires-clause-ahead : goal.rest-rest-requires-clause-ahead
rest-rest-requires-clause-ahead c =
    let m = rw c.self.view_is at c.self.invariant in
    let w = ap (λ (x : TestLists). x.ways) c.self.view_is in
    let z = c.loop-tested.invariant.along in
    let o = along_on m z (rw w at c.is_level.ensures) (get_or c.loop-tested.tested c.loop-tested.i false) c.loop-tested-test.true in
    rw w (λ e. omega (arith, o.next_is, e))

pub try_pair-requires-clause-needs : goal.try_pair-requires-clause-needs
try_pair-requires-clause-needs c =
    let w = ap (λ (x : TestLists). x.ways) c.self.view_is in
    let n = rw w at c.lacking.ensures in
    rw c.hold.ensures (record { lefts = n.left; rights = n.right })

pub try_pair-requires-clause-next : goal.try_pair-requires-clause-next
try_pair-requires-clause-next c =
    let w = ap (λ (x : TestLists). x.ways) c.self.view_is in
    let next = rw (c.unwrap-next.ensures, w) at c.next.ensures in
    let to : get_or c.args.self.now.ways.link c.loop-tested.i 0 - 1 ≡ c.unwrap-next.result = omega (arith, next) in
    rw to at (rw w at c.rest-rest.ensures.held)

pub loop-tested-smaller : goal.loop-tested-smaller
loop-tested-smaller c =
    let m = rw c.self.view_is at c.self.invariant in
    let w = ap (λ (x : TestLists). x.ways) c.self.view_is in
    let z = c.loop-tested.invariant.along in
    let o = along_on m z (rw w at c.is_level.ensures) (get_or c.loop-tested.tested c.loop-tested.i false) c.loop-tested-test.true in
    let next = rw (c.unwrap-next.ensures, w) at c.next.ensures in
    let to : get_or c.args.self.now.ways.link c.loop-tested.i 0 - 1 ≡ c.unwrap-next.result = omega (arith, next) in
    omega (arith, (rw to at o).fewer)

pub loop-tested-preserved : goal.loop-tested-preserved
loop-tested-preserved c =
    let m = rw c.self.view_is at c.self.invariant in
    let w = ap (λ (x : TestLists). x.ways) c.self.view_is in
    let z = c.loop-tested.invariant.along in
    let o = along_on m z (rw w at c.is_level.ensures) (get_or c.loop-tested.tested c.loop-tested.i false) c.loop-tested-test.true in
    let next = rw (c.unwrap-next.ensures, w) at c.next.ensures in
    let to : get_or c.args.self.now.ways.link c.loop-tested.i 0 - 1 ≡ c.unwrap-next.result = omega (arith, next) in
    let words = rw w at c.rest-rest.ensures.words in
    record {
      along = along_more m z (rw to at o) (rw to at (rw w at c.rest-rest.ensures.held)) c.in_default.ensures;
      words = rw to at (words c.loop-tested.invariant.words);
    }
