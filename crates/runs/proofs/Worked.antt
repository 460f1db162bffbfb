-- Capacities, by hand.
use Rattle.std.proofs.Common.{◌≡◌, [], ◌∷◌, refl, Some, None}
use Rattle.std.specs.Prelude.{Ok, Err}
use Rattle.sam_base.specs.declared.faults.Fault.TheVariants.{NoSuchChannel}
use Rattle.runs.specs.Capacities.{capacity_at, unknown_channel, capacities_of}

no_limit_at_all : capacity_at None [] 7 ≡ None
no_limit_at_all = refl

the_capacity_of_all : capacity_at (Some 4) ((2, 1) ∷ []) 1 ≡ Some 4
the_capacity_of_all = refl

one_of_its_own : capacity_at (Some 4) ((2, 1) ∷ (0, 9) ∷ []) 2 ≡ Some 1
one_of_its_own = refl

all_are_there : unknown_channel 3 ((2, 1) ∷ (0, 9) ∷ []) ≡ None
all_are_there = refl

the_first_unknown : unknown_channel 3 ((2, 1) ∷ (9, 1) ∷ (3, 1) ∷ []) ≡ Some 9
the_first_unknown = refl

none_are_there : unknown_channel 0 ((0, 1) ∷ []) ≡ Some 0
none_are_there = refl

unlimited_channels : capacities_of 3 None [] ≡ Ok (None ∷ None ∷ None ∷ [])
unlimited_channels = refl

some_of_their_own : capacities_of 4 (Some 8) ((2, 1) ∷ (0, 9) ∷ []) ≡ Ok (Some 9 ∷ Some 8 ∷ Some 1 ∷ Some 8 ∷ [])
some_of_their_own = refl

one_limited : capacities_of 3 None ((1, 1) ∷ []) ≡ Ok (None ∷ Some 1 ∷ None ∷ [])
one_limited = refl

no_such_channel : capacities_of 3 (Some 8) ((2, 1) ∷ (4294967295, 1) ∷ (3, 1) ∷ []) ≡ Err (NoSuchChannel 4294967295)
no_such_channel = refl
