use Rattle.std.proofs.Common.{ap, inl, subst, sym, Err}
use Rattle.tns_io.specs.Fronts.{PathsAscend}
use Rattle.sam_model.specs.Listing.{listing}
use Rattle.runs.proofs.ResultLemmas.{listed-is, too-large-is}
use Rattle.tns_io.proofs.FoundEntries.{found-ascends}
use Rattle.runs.proofs.results.program_result.Goals as goal

pub close_result-requires-clause-ascending : goal.close_result-requires-clause-ascending
close_result-requires-clause-ascending c =
    let found = c.requires.found in subst PathsAscend (sym found.1) (found-ascends c.args.p.now found.0)

pub returns-in-Ok-clause-listed : goal.returns-in-Ok-clause-listed
returns-in-Ok-clause-listed c = λ es is.
    inl (listed-is c.args.p.now c.requires.accepted es (listing c.args.w) is (listing c.in-Ok.closed)
    c.in-Ok.ensures.listed (λ e. ap listing (c.in-Ok.ensures.kept e)) c.in-Ok.ensures.fits)

pub returns-in-Err-TooLarge-clause-listed : goal.returns-in-Err-TooLarge-clause-listed
returns-in-Err-TooLarge-clause-listed c = λ es is.
    inl (too-large-is c.args.p.now c.requires.accepted es (listing c.args.w) is (c.in-Err-TooLarge.ensures.too_large (ap Err c.in-Err-TooLarge.field-0-is)))
