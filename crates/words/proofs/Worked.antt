-- Some words, and what they ask for.
use Rattle.std.proofs.Common.{◌≡◌, refl, List, [], ◌∷◌, codes}
use Rattle.std.specs.Prelude.{ℕ, Option, Some, None}
use Rattle.clap.proofs.OnLiterals.{clap_on_literals}
use Rattle.words.specs.Asked.{asked_of}
use Rattle.words.specs.declared.asking.Lowering.TheVariants.{Plain, Fused}
use Rattle.words.specs.declared.asking.Options.{Options}
use Rattle.words.specs.declared.asking.Command.{Command}
use Rattle.words.specs.declared.asking.Command.TheVariants.{Check, Lower, Streams, Step, Moment, Run, Size, Verify, Large}

abbrev step_p : List (List ℕ) → List (List ℕ)
step_p more = codes "step" ∷ codes "p.sam" ∷ more

abbrev plain : Options
plain = record { lowering = Plain; capacity = None; own = []; schedule = None }

abbrev asks_step : Options → Option Command
asks_step options = Some (Step (codes "p.sam") options)

abbrev large_of : List ℕ → Option Command
large_of number = asked_of (codes "large" ∷ number ∷ [])

abbrev run_p : List (List ℕ) → Option Command
run_p more = asked_of (codes "run" ∷ codes "p.sam" ∷ more)

-- ---- commands and their subjects

checks : asked_of (codes "check" ∷ codes "p.sam" ∷ []) ≡ Some (Check (codes "p.sam"))
unfolding clap_on_literals
checks = refl

lowers : asked_of (codes "lower" ∷ codes "p.sam" ∷ []) ≡ Some (Lower (codes "p.sam") Plain)
unfolding clap_on_literals
lowers = refl

streams : asked_of (codes "streams" ∷ codes "p.sam" ∷ []) ≡ Some (Streams (codes "p.sam") Plain)
unfolding clap_on_literals
streams = refl

steps : asked_of (step_p []) ≡ asks_step plain
unfolding clap_on_literals
steps = refl

moment_with_schedule : asked_of (codes "--schedule=s" ∷ codes "moment" ∷ codes "p.sam" ∷ []) ≡ Some (Moment (codes "p.sam") (record plain { schedule = Some (codes "s") }))
unfolding clap_on_literals
moment_with_schedule = refl

no_words : asked_of [] ≡ None
unfolding clap_on_literals
no_words = refl

no_subject : asked_of (codes "step" ∷ []) ≡ None
unfolding clap_on_literals
no_subject = refl

-- a graph is given for `verify`, and for no other command
verifies : asked_of (codes "verify" ∷ codes "p.sam" ∷ codes "g.json" ∷ []) ≡ Some (Verify (codes "p.sam") (codes "g.json"))
unfolding clap_on_literals
verifies = refl

verify_without_a_graph : asked_of (codes "verify" ∷ codes "p.sam" ∷ []) ≡ None
unfolding clap_on_literals
verify_without_a_graph = refl

step_with_a_graph : asked_of (step_p (codes "g.json" ∷ [])) ≡ None
unfolding clap_on_literals
step_with_a_graph = refl

verify_has_no_flag : asked_of (codes "verify" ∷ codes "p.sam" ∷ codes "g.json" ∷ codes "--fused" ∷ []) ≡ None
unfolding clap_on_literals
verify_has_no_flag = refl

verify_has_no_option : asked_of (codes "--capacity=1" ∷ codes "verify" ∷ codes "p.sam" ∷ codes "g.json" ∷ []) ≡ None
unfolding clap_on_literals
verify_has_no_option = refl

two_graphs : asked_of (codes "verify" ∷ codes "p.sam" ∷ codes "g.json" ∷ codes "h.json" ∷ []) ≡ None
unfolding clap_on_literals
two_graphs = refl

unknown_command : asked_of (codes "walk" ∷ codes "p.sam" ∷ []) ≡ None
unfolding clap_on_literals
unknown_command = refl

runs : run_p [] ≡ Some (Run (codes "p.sam") Plain None)
unfolding clap_on_literals
runs = refl

sizes : asked_of (codes "size" ∷ codes "p.sam" ∷ []) ≡ Some (Size (codes "p.sam") Plain)
unfolding clap_on_literals
sizes = refl

size_takes_no_capacity : asked_of (codes "size" ∷ codes "p.sam" ∷ codes "--capacity=2" ∷ []) ≡ None
unfolding clap_on_literals
size_takes_no_capacity = refl

help_is_none : asked_of (step_p (codes "--help" ∷ [])) ≡ None
unfolding clap_on_literals
help_is_none = refl

-- behind `--` each word is a place, and a lone `-` is a word
behind_hyphens : asked_of (codes "check" ∷ codes "--" ∷ codes "--of" ∷ []) ≡ Some (Check (codes "--of"))
unfolding clap_on_literals
behind_hyphens = refl

lone_hyphen : asked_of (codes "check" ∷ codes "-" ∷ []) ≡ Some (Check (codes "-"))
unfolding clap_on_literals
lone_hyphen = refl

empty_subject : asked_of (codes "check" ∷ [] ∷ []) ≡ Some (Check [])
unfolding clap_on_literals
empty_subject = refl

empty_command : asked_of ([] ∷ codes "p.sam" ∷ []) ≡ None
unfolding clap_on_literals
empty_command = refl

-- ---- the values of options

apart : asked_of (step_p (codes "--capacity" ∷ codes "4" ∷ [])) ≡ asks_step (record plain { capacity = Some 4 })
unfolding clap_on_literals
apart = refl

joined : asked_of (codes "--capacity=04" ∷ step_p []) ≡ asks_step (record plain { capacity = Some 4 })
unfolding clap_on_literals
joined = refl

empty_schedule : asked_of (step_p (codes "--schedule=" ∷ [])) ≡ asks_step (record plain { schedule = Some [] })
unfolding clap_on_literals
empty_schedule = refl

no_value : asked_of (step_p (codes "--schedule" ∷ [])) ≡ None
unfolding clap_on_literals
no_value = refl

-- a value may begin with a hyphen where it is joined, and not where it stands apart
hyphen_apart : asked_of (step_p (codes "--schedule" ∷ codes "-f" ∷ [])) ≡ None
unfolding clap_on_literals
hyphen_apart = refl

hyphen_joined : asked_of (step_p (codes "--schedule=-f" ∷ [])) ≡ asks_step (record plain { schedule = Some (codes "-f") })
unfolding clap_on_literals
hyphen_joined = refl

twice : asked_of (step_p (codes "--schedule=s" ∷ codes "--schedule=s" ∷ [])) ≡ None
unfolding clap_on_literals
twice = refl

check_has_no_option : asked_of (codes "check" ∷ codes "p.sam" ∷ codes "--capacity" ∷ codes "4" ∷ []) ≡ None
unfolding clap_on_literals
check_has_no_option = refl

run_in_room : run_p (codes "--capacity=4" ∷ []) ≡ Some (Run (codes "p.sam") Plain (Some 4))
unfolding clap_on_literals
run_in_room = refl

run_has_no_pairs : run_p (codes "--of=7=1" ∷ []) ≡ None
unfolding clap_on_literals
run_has_no_pairs = refl

run_has_no_schedule : run_p (codes "--capacity=4" ∷ codes "--schedule=s" ∷ []) ≡ None
unfolding clap_on_literals
run_has_no_schedule = refl

run_capacity_0 : run_p (codes "--capacity=0" ∷ []) ≡ None
unfolding clap_on_literals
run_capacity_0 = refl

-- ---- the flag

lowers_fused : asked_of (codes "lower" ∷ codes "p.sam" ∷ codes "--fused" ∷ []) ≡ Some (Lower (codes "p.sam") Fused)
unfolding clap_on_literals
lowers_fused = refl

streams_fused : asked_of (codes "--fused" ∷ codes "streams" ∷ codes "p.sam" ∷ []) ≡ Some (Streams (codes "p.sam") Fused)
unfolding clap_on_literals
streams_fused = refl

steps_fused :
    asked_of (step_p (codes "--fused" ∷ codes "--capacity=1" ∷ [])) ≡ asks_step (record plain { lowering = Fused; capacity = Some 1 })
unfolding clap_on_literals
steps_fused = refl

moment_fused :
    asked_of (codes "moment" ∷ codes "--fused" ∷ codes "p.sam" ∷ []) ≡ Some (Moment (codes "p.sam") (record plain { lowering = Fused }))
unfolding clap_on_literals
moment_fused = refl

runs_fused : run_p (codes "--fused" ∷ codes "--capacity=4" ∷ []) ≡ Some (Run (codes "p.sam") Fused (Some 4))
unfolding clap_on_literals
runs_fused = refl

sizes_fused : asked_of (codes "size" ∷ codes "p.sam" ∷ codes "--fused" ∷ []) ≡ Some (Size (codes "p.sam") Fused)
unfolding clap_on_literals
sizes_fused = refl

check_has_no_flag : asked_of (codes "check" ∷ codes "p.sam" ∷ codes "--fused" ∷ []) ≡ None
unfolding clap_on_literals
check_has_no_flag = refl

large_has_no_flag : asked_of (codes "large" ∷ codes "3" ∷ codes "--fused" ∷ []) ≡ None
unfolding clap_on_literals
large_has_no_flag = refl

flag_twice : asked_of (step_p (codes "--fused" ∷ codes "--fused" ∷ [])) ≡ None
unfolding clap_on_literals
flag_twice = refl

flag_has_no_value : asked_of (step_p (codes "--fused=true" ∷ [])) ≡ None
unfolding clap_on_literals
flag_has_no_value = refl

flag_beside_another_option : asked_of (codes "lower" ∷ codes "p.sam" ∷ codes "--fused" ∷ codes "--capacity=1" ∷ []) ≡ None
unfolding clap_on_literals
flag_beside_another_option = refl

-- ---- bounds

capacity_0 : asked_of (step_p (codes "--capacity" ∷ codes "0" ∷ [])) ≡ None
unfolding clap_on_literals
capacity_0 = refl

greatest_capacity : asked_of (step_p (codes "--capacity=1048576" ∷ [])) ≡ asks_step (record plain { capacity = Some 1048576 })
unfolding clap_on_literals
greatest_capacity = refl

capacity_past : asked_of (step_p (codes "--capacity=1048577" ∷ [])) ≡ None
unfolding clap_on_literals
capacity_past = refl

own_capacities : asked_of (step_p (codes "--of=7=1,4294967295=2" ∷ [])) ≡ asks_step (record plain { own = (7, 1) ∷ (4294967295, 2) ∷ [] })
unfolding clap_on_literals
own_capacities = refl

channel_past : asked_of (step_p (codes "--of=4294967296=2" ∷ [])) ≡ None
unfolding clap_on_literals
channel_past = refl

channel_twice : asked_of (step_p (codes "--of" ∷ codes "7=1,7=2" ∷ [])) ≡ None
unfolding clap_on_literals
channel_twice = refl

channel_twice_by_number : asked_of (step_p (codes "--of=7=1,07=2" ∷ [])) ≡ None
unfolding clap_on_literals
channel_twice_by_number = refl

no_pair : asked_of (step_p (codes "--of=" ∷ [])) ≡ None
unfolding clap_on_literals
no_pair = refl

half_a_pair : asked_of (step_p (codes "--of=7=1,8" ∷ [])) ≡ None
unfolding clap_on_literals
half_a_pair = refl

large_0 : large_of (codes "0") ≡ None
unfolding clap_on_literals
large_0 = refl

large_1 : large_of (codes "1") ≡ Some (Large 1)
unfolding clap_on_literals
large_1 = refl

greatest_large : large_of (codes "262144") ≡ Some (Large 262144)
unfolding clap_on_literals
greatest_large = refl

large_past : large_of (codes "262145") ≡ None
unfolding clap_on_literals
large_past = refl

large_of_a_file : large_of (codes "p.sam") ≡ None
unfolding clap_on_literals
large_of_a_file = refl
