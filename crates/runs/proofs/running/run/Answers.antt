use Rattle.std.proofs.Common.{◌<◌, ap, refl, sym, subst, ℕ, Ok}
use Rattle.std.specs.Prelude.{All}
use Rattle.plays.specs.Net.{start, play}
use Rattle.plays.proofs.Always.{stays-reached}
use Rattle.stepper.specs.NetOf.{net_of, rooms_of}
use Rattle.runs.proofs.running.run.Goals as goal

pub play-requires-clause-within : goal.play-requires-clause-within
play-requires-clause-within c =
    subst (λ (n : ℕ). All (λ (b : ℕ). b < n) c.args.schedule.now) (sym c.in_ok-machine.ensures.blocks) c.requires.schedule

pub returns-in-Finished : goal.returns-in-Finished
returns-in-Finished c =
    let storages = c.args.storages.now in
    let g = c.args.g.now in
    let caps = c.args.capacities.now.each in
    let schedule = c.args.schedule.now in
    let there = play (net_of storages g) (rooms_of caps) start schedule in
    let played = c.in_ok-play.ensures.played storages g caps start c.in_ok-machine.ensures.starts in
    let gone = c.in_ok-finish.ensures.onwards storages g caps there played.0 in
    let finished = ap Ok c.in-Finished.is in
    let ended = c.in_ok-finish.ensures.blocks_end finished storages g caps gone.0 gone.2 in
    record {
      end = gone.0;
      ends = record {
        reached = stays-reached (net_of storages g) (rooms_of caps) there gone.0 (schedule, refl) gone.1;
        stuck = c.in_ok-finish.ensures.stuck storages g caps gone.0 gone.2;
      };
      finished = c.in_ok-finish.ensures.finished finished storages g caps gone.0 gone.2;
      written = c.in_ok-gather-in-Finished.ensures.written storages (rw c.blocks-in-Finished.ensures ended);
    }

pub returns : goal.returns
returns c =
    let storages = c.args.storages.now in
    let g = c.args.g.now in
    let caps = c.args.capacities.now.each in
    let schedule = c.args.schedule.now in
    let there = play (net_of storages g) (rooms_of caps) start schedule in
    let played = c.in_ok-play.ensures.played storages g caps start c.in_ok-machine.ensures.starts in
    let gone = c.in_ok-finish.ensures.onwards storages g caps there played.0 in
    let stalled = c.in_ok-finish.ensures.stalled c.in-Stalled.list (ap Ok c.in-Stalled.is) storages g caps gone.0 gone.2 in
    record {
      end = gone.0;
      ends = record {
        reached = stays-reached (net_of storages g) (rooms_of caps) there gone.0 (schedule, refl) gone.1;
        stuck = c.in_ok-finish.ensures.stuck storages g caps gone.0 gone.2;
      };
      unfinished = stalled.1;
      waiting = stalled.0;
    }
