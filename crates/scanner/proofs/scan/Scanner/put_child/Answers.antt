use Rattle.std.proofs.Common.{◌≡◌, ap, refl, [], Ok, true, false}
use Rattle.stream_tokens.specs.declared.Token.TheVariants.{Item}
use Rattle.block_core.specs.Bursts.{Poured}
use Rattle.block_core.proofs.Pouring.{poured_still, poured_some, may_then, always-err}
use Rattle.levels.specs.Reads.{children_at}
use Rattle.scanner.specs.declared.scan_state.ScanState.TheVariants.{Child}
use Rattle.scanner.specs.declared.scan_state.Output.TheVariants.{Coordinates, References}
use Rattle.scanner.proofs.Going.{kind_at, stands_at, wants-child, may_put_wanted, poured_wanted, poured_coordinate}
use Rattle.scanner.proofs.scan.Scanner.put_child.Goals as goal

pub put-requires : goal.put-requires
put-requires g c =
    let children = children_at c.args.self.now.storage.now c.args.self.now.level in
    may_put_wanted children g.P.Ports.fed g.P.Ports.did c.args.self.now.state c.args.ports.now 0 (Item c.child-coordinate.result.0)
    (wants-child children g.P.Ports.fed g.P.Ports.did c.args.self.now.state Coordinates c.args.r c.args.n _ c.requires.at c.child-coordinate.ensures.coordinate) c.requires.may

pub put-requires-2 : goal.put-requires-2
put-requires-2 g c =
    let children = children_at c.args.self.now.storage.now c.args.self.now.level in
    let e : c.in_ok-put.field-0 ≡ true = c.if-not-branch.false in
    may_put_wanted children g.P.Ports.fed g.P.Ports.did (Child References c.args.r c.args.n) c.put.new.self 1 (Item c.child-coordinate.result.1)
    (wants-child children g.P.Ports.fed g.P.Ports.did _ References c.args.r c.args.n _ refl c.child-coordinate.ensures.reference)
    (may_then (kind_at children) (stands_at children) g.P.Ports.fed g.P.Ports.did g.met.P.Ports.fed_after c.args.self.now.state c.args.ports.now (Child References c.args.r c.args.n) c.put.new.self true refl
    (poured_coordinate children g.P.Ports.fed g.P.Ports.did g.met.P.Ports.did_none g.met.P.Ports.fed_after g.met.P.Ports.did_then c.args.self.now.state c.args.ports.now c.put.new.self c.args.r c.args.n _ c.requires.at c.child-coordinate.ensures.coordinate
    (c.in_ok-put.ensures.put (ap (λ x. Ok x) e))) c.requires.may)

pub returns-then-branch-clause-poured : goal.returns-then-branch-clause-poured
returns-then-branch-clause-poured g c =
    let children = children_at c.args.self.now.storage.now c.args.self.now.level in
    let e : c.in_ok-put.field-0 ≡ true = c.if-not-branch.false in
    let f : c.in_ok-put-2.field-0 ≡ true = c.if-branch.true in
    poured_wanted children g.P.Ports.fed g.P.Ports.did g.met.P.Ports.fed_after g.met.P.Ports.did_then c.args.self.now.state c.args.ports.now (Child References c.args.r c.args.n) c.put.new.self true c.child_after-self.result c.put-2.new.self 1 (Item c.child-coordinate.result.1)
    (wants-child children g.P.Ports.fed g.P.Ports.did _ References c.args.r c.args.n _ refl c.child-coordinate.ensures.reference) c.child_after-self.ensures
    (poured_coordinate children g.P.Ports.fed g.P.Ports.did g.met.P.Ports.did_none g.met.P.Ports.fed_after g.met.P.Ports.did_then c.args.self.now.state c.args.ports.now c.put.new.self c.args.r c.args.n _ c.requires.at c.child-coordinate.ensures.coordinate
    (c.in_ok-put.ensures.put (ap (λ x. Ok x) e)))
    (c.in_ok-put-2.ensures.put (ap (λ x. Ok x) f))

pub returns-else-branch-clause-poured : goal.returns-else-branch-clause-poured
returns-else-branch-clause-poured g c =
    let children = children_at c.args.self.now.storage.now c.args.self.now.level in
    let e : c.in_ok-put.field-0 ≡ true = c.if-not-branch.false in
    let f : c.in_ok-put-2.field-0 ≡ false = c.if-branch.false in
    poured_still (kind_at children) (stands_at children) g.P.Ports.fed g.P.Ports.did g.met.P.Ports.did_then c.args.self.now.state c.args.ports.now (Child References c.args.r c.args.n) c.put.new.self true c.put-2.new.self
    (poured_coordinate children g.P.Ports.fed g.P.Ports.did g.met.P.Ports.did_none g.met.P.Ports.fed_after g.met.P.Ports.did_then c.args.self.now.state c.args.ports.now c.put.new.self c.args.r c.args.n _ c.requires.at c.child-coordinate.ensures.coordinate
    (c.in_ok-put.ensures.put (ap (λ x. Ok x) e)))
    (c.in_ok-put-2.ensures.full (ap (λ x. Ok x) f))

pub returns-in_err-put-2-clause-refused : goal.returns-in_err-put-2-clause-refused
returns-in_err-put-2-clause-refused g c =
    let children = children_at c.args.self.now.storage.now c.args.self.now.level in
    let e : c.in_ok-put.field-0 ≡ true = c.if-not-branch.false in
    let made : g.P.Ports.did c.put.new.self [] c.put-2.new.self = c.in_err-put-2.ensures.refused in
    let part : Poured (kind_at children) (stands_at children) g.P.Ports.fed g.P.Ports.did c.args.self.now.state c.args.ports.now (Child References c.args.r c.args.n) c.put-2.new.self false =
    poured_some (kind_at children) (stands_at children) g.P.Ports.fed g.P.Ports.did c.args.self.now.state c.args.ports.now (Child References c.args.r c.args.n) c.put-2.new.self true
    (poured_still (kind_at children) (stands_at children) g.P.Ports.fed g.P.Ports.did g.met.P.Ports.did_then c.args.self.now.state c.args.ports.now (Child References c.args.r c.args.n) c.put.new.self true c.put-2.new.self
    (poured_coordinate children g.P.Ports.fed g.P.Ports.did g.met.P.Ports.did_none g.met.P.Ports.fed_after g.met.P.Ports.did_then c.args.self.now.state c.args.ports.now c.put.new.self c.args.r c.args.n _ c.requires.at c.child-coordinate.ensures.coordinate
    (c.in_ok-put.ensures.put (ap (λ x. Ok x) e))) made) in
    always-err _ part
