use Rattle.std.proofs.Common.{◌≡◌, ◌≢◌, ◌<◌, ℕ, sym, subst, length}
use Rattle.std.specs.Prelude.{Some, slice_get, slice_index}
use Rattle.ruled_wires.specs.Ends.{End, fresh_end}
use Rattle.graph.specs.declared.graphs.Block.{Block}
use Rattle.block_threads.proofs.Giving.{in_waits, out_waits, has_wires, wait_from}
use Rattle.block_threads.proofs.wires.Wires.job.Goals as goal

pub ends_of-requires-clause-waiting : goal.ends_of-requires-clause-waiting
ends_of-requires-clause-waiting g c =
    let r = c.requires in
    subst (λ (x : Block). (p : ℕ) → p < length x.ins → (e : End) × (slice_get c.args.self.now.receivers.items (slice_index x.ins p) ≡ Some (Some e))) (sym c.block-ports.ensures)
    (λ p less. (fresh_end _, in_waits c.args.g.now r.formed c.args.number r.number c.args.self.now.senders.items c.args.self.now.receivers.items r.waits p less))

pub ends_of-requires-2-clause-waiting : goal.ends_of-requires-2-clause-waiting
ends_of-requires-2-clause-waiting g c =
    let r = c.requires in
    subst (λ (x : Block). (p : ℕ) → p < length x.outs → (e : End) × (slice_get c.args.self.now.senders.items (slice_index x.outs p) ≡ Some (Some e))) (sym c.block-ports.ensures)
    (λ p less. (fresh_end _, out_waits c.args.g.now r.formed c.args.number r.number c.args.self.now.senders.items c.args.self.now.receivers.items r.waits p less))

pub returns-clause-wires : goal.returns-clause-wires
returns-clause-wires g c =
    let r = c.requires in
    let i = c.in_ok-ins.ensures in
    let o = c.in_ok-outs.ensures in
    let is = c.block-ports.ensures in
    has_wires c.args.g.now r.formed c.args.number r.number c.args.self.now.senders.items c.args.self.now.receivers.items r.waits
    c.in_ok-ins.ins.items c.in_ok-outs.outs.items c.ends_of-2.new.ends.items c.ends_of.new.ends.items
    (subst (λ (x : Block). length c.in_ok-ins.ins.items ≡ length x.ins) is i.number)
    (subst (λ (x : Block). (p : ℕ) (e : End) → p < length x.ins → slice_get c.args.self.now.receivers.items (slice_index x.ins p) ≡ Some (Some e) → slice_get c.in_ok-ins.ins.items p ≡ Some e) is i.taken)
    (subst (λ (x : Block). (k : ℕ) → ((p : ℕ) → p < length x.ins → slice_index x.ins p ≢ k) → slice_get c.ends_of.new.ends.items k ≡ slice_get c.args.self.now.receivers.items k) is i.others)
    (subst (λ (x : Block). length c.in_ok-outs.outs.items ≡ length x.outs) is o.number)
    (subst (λ (x : Block). (p : ℕ) (e : End) → p < length x.outs → slice_get c.args.self.now.senders.items (slice_index x.outs p) ≡ Some (Some e) → slice_get c.in_ok-outs.outs.items p ≡ Some e) is o.taken)
    (subst (λ (x : Block). (k : ℕ) → ((p : ℕ) → p < length x.outs → slice_index x.outs p ≢ k) → slice_get c.ends_of-2.new.ends.items k ≡ slice_get c.args.self.now.senders.items k) is o.others)

pub returns-clause-waits : goal.returns-clause-waits
returns-clause-waits g c =
    let r = c.requires in
    let i = c.in_ok-ins.ensures in
    let o = c.in_ok-outs.ensures in
    let is = c.block-ports.ensures in
    wait_from c.args.g.now r.formed c.args.number r.number c.args.self.now.senders.items c.args.self.now.receivers.items r.waits
    c.in_ok-ins.ins.items c.in_ok-outs.outs.items c.ends_of-2.new.ends.items c.ends_of.new.ends.items
    (subst (λ (x : Block). length c.in_ok-ins.ins.items ≡ length x.ins) is i.number)
    (subst (λ (x : Block). (p : ℕ) (e : End) → p < length x.ins → slice_get c.args.self.now.receivers.items (slice_index x.ins p) ≡ Some (Some e) → slice_get c.in_ok-ins.ins.items p ≡ Some e) is i.taken)
    (subst (λ (x : Block). (k : ℕ) → ((p : ℕ) → p < length x.ins → slice_index x.ins p ≢ k) → slice_get c.ends_of.new.ends.items k ≡ slice_get c.args.self.now.receivers.items k) is i.others)
    (subst (λ (x : Block). length c.in_ok-outs.outs.items ≡ length x.outs) is o.number)
    (subst (λ (x : Block). (p : ℕ) (e : End) → p < length x.outs → slice_get c.args.self.now.senders.items (slice_index x.outs p) ≡ Some (Some e) → slice_get c.in_ok-outs.outs.items p ≡ Some e) is o.taken)
    (subst (λ (x : Block). (k : ℕ) → ((p : ℕ) → p < length x.outs → slice_index x.outs p ≢ k) → slice_get c.ends_of-2.new.ends.items k ≡ slice_get c.args.self.now.senders.items k) is o.others)
