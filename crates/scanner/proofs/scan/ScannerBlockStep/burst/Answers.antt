use Rattle.std.proofs.Common.{◌≡◌, ◌∙◌, sym, true, false}
use Rattle.block_core.specs.Bursts.{Poured}
use Rattle.block_core.proofs.Pouring.{may_then, always-err}
use Rattle.scanner.proofs.Going.{scanner_kind, scanner_stands, poured_then, or-first, or-second}
use Rattle.scanner.proofs.scan.ScannerBlockStep.burst.Goals as goal
use Rattle.scanner.proofs.scan.ScannerBlockStep.burst.Goals.{in-Child-Coordinates-default-default+in_ok-moved-in-Child-Coordinates-default-default, in_default+in_ok-moved-in_default}

pub returns-in_err-moved-in-Child-Coordinates-default-default-clause-refused :
    goal.returns-in_err-moved-in-Child-Coordinates-default-default-clause-refused
returns-in_err-moved-in-Child-Coordinates-default-default-clause-refused g c =
    let part : Poured scanner_kind scanner_stands g.P.Ports.fed g.P.Ports.did c.args.self.now c.args.ports.now c.put_child.new.self c.put_child.new.ports false =
    poured_then scanner_kind scanner_stands g.P.Ports.fed g.P.Ports.did g.met.P.Ports.fed_after g.met.P.Ports.did_then c.args.self.now c.args.ports.now c.loop-left.self c.loop-left.ports c.loop-left.went c.put_child.new.self c.put_child.new.ports false false
    c.loop-left.invariant.same_kind (λ e. absurd (cc)) c.loop-left.invariant.poured c.in_err-moved-in-Child-Coordinates-default-default.ensures.refused in
    always-err _ part

pub returns-in_err-moved-in_default-clause-refused : goal.returns-in_err-moved-in_default-clause-refused
returns-in_err-moved-in_default-clause-refused g c =
    let part : Poured scanner_kind scanner_stands g.P.Ports.fed g.P.Ports.did c.args.self.now c.args.ports.now c.one_by_one.new.self c.one_by_one.new.ports false =
    poured_then scanner_kind scanner_stands g.P.Ports.fed g.P.Ports.did g.met.P.Ports.fed_after g.met.P.Ports.did_then c.args.self.now c.args.ports.now c.loop-left.self c.loop-left.ports c.loop-left.went c.one_by_one.new.self c.one_by_one.new.ports false false
    c.loop-left.invariant.same_kind (λ e. absurd (cc)) c.loop-left.invariant.poured c.in_err-moved-in_default.ensures.refused in
    always-err _ part

pub returns-then-not-moved-clause-poured : goal.returns-then-not-moved-clause-poured
returns-then-not-moved-clause-poured g c =
    elim c.match-self.branch [
      | in-Child-Coordinates-default-default+in_ok-moved-in-Child-Coordinates-default-default w ↦
          let part : Poured scanner_kind scanner_stands g.P.Ports.fed g.P.Ports.did c.args.self.now c.args.ports.now w.put_child.new.self w.put_child.new.ports c.loop-left.went =
          poured_then scanner_kind scanner_stands g.P.Ports.fed g.P.Ports.did g.met.P.Ports.fed_after g.met.P.Ports.did_then c.args.self.now c.args.ports.now c.loop-left.self c.loop-left.ports c.loop-left.went w.put_child.new.self w.put_child.new.ports w.in_ok-moved-in-Child-Coordinates-default-default.moved c.loop-left.went
          c.loop-left.invariant.same_kind (or-first c.loop-left.went w.in_ok-moved-in-Child-Coordinates-default-default.moved) c.loop-left.invariant.poured w.in_ok-moved-in-Child-Coordinates-default-default.ensures.poured in
          rw (w.self-is, w.ports-is) part
      | in_default+in_ok-moved-in_default w ↦
          let part : Poured scanner_kind scanner_stands g.P.Ports.fed g.P.Ports.did c.args.self.now c.args.ports.now w.one_by_one.new.self w.one_by_one.new.ports c.loop-left.went =
          poured_then scanner_kind scanner_stands g.P.Ports.fed g.P.Ports.did g.met.P.Ports.fed_after g.met.P.Ports.did_then c.args.self.now c.args.ports.now c.loop-left.self c.loop-left.ports c.loop-left.went w.one_by_one.new.self w.one_by_one.new.ports w.in_ok-moved-in_default.moved c.loop-left.went
          c.loop-left.invariant.same_kind (or-first c.loop-left.went w.in_ok-moved-in_default.moved) c.loop-left.invariant.poured w.in_ok-moved-in_default.ensures.poured in
          rw (w.self-is, w.ports-is) part
    ]

pub loop-left-preserved : goal.loop-left-preserved
loop-left-preserved g c =
    elim c.match-self.branch [
      | in-Child-Coordinates-default-default+in_ok-moved-in-Child-Coordinates-default-default w ↦
          let same = w.in_ok-moved-in-Child-Coordinates-default-default.ensures.same_kind ∙ c.loop-left.invariant.same_kind in
          let moved : w.in_ok-moved-in-Child-Coordinates-default-default.moved ≡ true = sym w.moved-is ∙ c.if-not-moved.false in
          let part : Poured scanner_kind scanner_stands g.P.Ports.fed g.P.Ports.did c.args.self.now c.args.ports.now w.put_child.new.self w.put_child.new.ports true =
          poured_then scanner_kind scanner_stands g.P.Ports.fed g.P.Ports.did g.met.P.Ports.fed_after g.met.P.Ports.did_then c.args.self.now c.args.ports.now c.loop-left.self c.loop-left.ports c.loop-left.went w.put_child.new.self w.put_child.new.ports w.in_ok-moved-in-Child-Coordinates-default-default.moved true
          c.loop-left.invariant.same_kind (λ e. or-second c.loop-left.went w.in_ok-moved-in-Child-Coordinates-default-default.moved moved) c.loop-left.invariant.poured w.in_ok-moved-in-Child-Coordinates-default-default.ensures.poured in
          rw (w.self-is, w.ports-is) (record {
            same_kind = same;
            same_ends = g.met.P.Ports.same_then c.args.ports.now c.loop-left.ports w.put_child.new.ports c.loop-left.invariant.same_ends w.put_child.ensures.same_ends;
            poured = part;
            may = may_then scanner_kind scanner_stands g.P.Ports.fed g.P.Ports.did g.met.P.Ports.fed_after c.args.self.now c.args.ports.now w.put_child.new.self w.put_child.new.ports true same part c.requires;
          })
      | in_default+in_ok-moved-in_default w ↦
          let same = w.in_ok-moved-in_default.ensures.same_kind ∙ c.loop-left.invariant.same_kind in
          let moved : w.in_ok-moved-in_default.moved ≡ true = sym w.moved-is ∙ c.if-not-moved.false in
          let part : Poured scanner_kind scanner_stands g.P.Ports.fed g.P.Ports.did c.args.self.now c.args.ports.now w.one_by_one.new.self w.one_by_one.new.ports true =
          poured_then scanner_kind scanner_stands g.P.Ports.fed g.P.Ports.did g.met.P.Ports.fed_after g.met.P.Ports.did_then c.args.self.now c.args.ports.now c.loop-left.self c.loop-left.ports c.loop-left.went w.one_by_one.new.self w.one_by_one.new.ports w.in_ok-moved-in_default.moved true
          c.loop-left.invariant.same_kind (λ e. or-second c.loop-left.went w.in_ok-moved-in_default.moved moved) c.loop-left.invariant.poured w.in_ok-moved-in_default.ensures.poured in
          rw (w.self-is, w.ports-is) (record {
            same_kind = same;
            same_ends = g.met.P.Ports.same_then c.args.ports.now c.loop-left.ports w.one_by_one.new.ports c.loop-left.invariant.same_ends w.one_by_one.ensures.same_ends;
            poured = part;
            may = may_then scanner_kind scanner_stands g.P.Ports.fed g.P.Ports.did g.met.P.Ports.fed_after c.args.self.now c.args.ports.now w.one_by_one.new.self w.one_by_one.new.ports true same part c.requires;
          })
    ]
