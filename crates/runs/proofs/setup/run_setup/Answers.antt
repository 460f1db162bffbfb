use Rattle.std.proofs.Common.{length, refl}
use Rattle.std.specs.Prelude.{Ok, Err}
use Rattle.sam_io.specs.Spans.{files_span}
use Rattle.parts.specs.Parts.{gives}
use Rattle.parts.proofs.ChainLemmas.{comes_first, comes_from, comes_then}
use Rattle.runs.specs.declared.setup.Setup.{Setup}
use Rattle.runs.specs.Capacities.{capacities_of}
use Rattle.runs.specs.Setups.{schedule_part, with_schedule}
use Rattle.runs.proofs.setup.run_setup.Goals as goal

pub returns-in-Err-clause-comes : goal.returns-in-Err-clause-comes
returns-in-Err-clause-comes g c =
    let graph = c.args.g.now in
    let options = c.args.options.now in
    let span = files_span g.F.Files c.args.files.now c.args.files.now in
    comes_first (gives (capacities_of (length graph.channels) options.capacity options.own))
    (with_schedule (length graph.blocks) options.schedule) span c.in-Err.fault (c.in-Err.ensures.comes span)

pub returns-in-Err-named_schedule-clause-comes : goal.returns-in-Err-named_schedule-clause-comes
returns-in-Err-named_schedule-clause-comes g c =
    let graph = c.args.g.now in
    let options = c.args.options.now in
    let span = files_span g.F.Files c.args.files.now c.named_schedule.new.files in
    let each = c.in-Ok.each in
    let fault = c.in-Err-named_schedule.fault in
    comes_from (gives (capacities_of (length graph.channels) options.capacity options.own))
    (with_schedule (length graph.blocks) options.schedule) span each (Err fault) c.in-Ok.ensures.comes
    (comes_first (schedule_part (length graph.blocks) options.schedule)
    (λ schedule. gives {A = Setup} (Ok (record { capacities = record { each = each }; schedule = schedule }))) span fault
    c.in-Err-named_schedule.ensures.comes)

pub returns-in-Ok-named_schedule-clause-comes : goal.returns-in-Ok-named_schedule-clause-comes
returns-in-Ok-named_schedule-clause-comes g c =
    let graph = c.args.g.now in
    let options = c.args.options.now in
    let span = files_span g.F.Files c.args.files.now c.named_schedule.new.files in
    let each = c.in-Ok.each in
    let turns = c.in-Ok-named_schedule.schedule in
    let setup : Setup = record { capacities = record { each = each }; schedule = turns } in
    comes_from (gives (capacities_of (length graph.channels) options.capacity options.own))
    (with_schedule (length graph.blocks) options.schedule) span each (Ok setup) c.in-Ok.ensures.comes
    (comes_then (schedule_part (length graph.blocks) options.schedule)
    (λ schedule. gives {A = Setup} (Ok (record { capacities = record { each = each }; schedule = schedule }))) span turns (Ok setup)
    c.in-Ok-named_schedule.ensures.comes (λ files. refl))
