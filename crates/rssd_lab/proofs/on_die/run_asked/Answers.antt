-- Each kind of die is made blank, of the head and kind that were asked for.
use Rattle.std.proofs.Common.{sym, subst}
use Rattle.mem_die.specs.MemState.{mem_state}
use Rattle.mem_die.specs.WornState.{worn_state}
use Rattle.spare_die.specs.Spare.{spare_state}
use Rattle.spare_die.specs.Tallies.{own_of}
use Rattle.stripe_die.specs.Pair.{pair_state}
use Rattle.rssd_words.specs.Commands.{IsWithin}
use Rattle.lab_words.specs.declared.asked.DieKind.{DieKind}
use Rattle.lab_words.specs.Orders.{command_on}
use Rattle.rssd_lab.specs.Dies.{IsBlankOf}
use Rattle.rssd_lab.proofs.on_die.run_asked.Goals as goal

pub plain-requires : goal.plain-requires
plain-requires g c = subst (λ (kind : DieKind). IsWithin (command_on c.args.asked.now.head kind)) c.in-Plain.is c.requires

pub worn-requires-clause-within : goal.worn-requires-clause-within
worn-requires-clause-within g c = (subst (λ (kind : DieKind). IsWithin (command_on c.args.asked.now.head kind)) c.in-Worn.is c.requires).0

pub worn-requires-clause-reserve : goal.worn-requires-clause-reserve
worn-requires-clause-reserve g c = (subst (λ (kind : DieKind). IsWithin (command_on c.args.asked.now.head kind)) c.in-Worn.is c.requires).1

pub pair-requires-clause-within : goal.pair-requires-clause-within
pair-requires-clause-within g c = (subst (λ (kind : DieKind). IsWithin (command_on c.args.asked.now.head kind)) c.in-Pair.is c.requires).0

pub pair-requires-clause-even : goal.pair-requires-clause-even
pair-requires-clause-even g c = (subst (λ (kind : DieKind). IsWithin (command_on c.args.asked.now.head kind)) c.in-Pair.is c.requires).1

pub run_blank-requires-clause-blank : goal.run_blank-requires-clause-blank
run_blank-requires-clause-blank g c =
    subst (λ (kind : DieKind). IsBlankOf c.args.asked.now.head kind (mem_state c.in-Ok.ready.die)) (sym c.in-Plain.is) c.in-Ok.ensures.die

pub run_blank-requires-in-Worn-clause-blank : goal.run_blank-requires-in-Worn-clause-blank
run_blank-requires-in-Worn-clause-blank g c =
    let spare = c.in-Ok-worn.ready.die in
    subst (λ (kind : DieKind). IsBlankOf c.args.asked.now.head kind (spare_state (worn_state spare.inner) spare.logical (own_of spare.tally))) (sym c.in-Worn.is) c.in-Ok-worn.ensures.die

pub run_blank-requires-in-Pair-clause-blank : goal.run_blank-requires-in-Pair-clause-blank
run_blank-requires-in-Pair-clause-blank g c =
    let two = c.in-Ok-pair.ready.die in
    subst (λ (kind : DieKind). IsBlankOf c.args.asked.now.head kind (pair_state (mem_state two.a) (mem_state two.b))) (sym c.in-Pair.is) c.in-Ok-pair.ensures.die
