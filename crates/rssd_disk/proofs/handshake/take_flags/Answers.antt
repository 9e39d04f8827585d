-- Four bytes are the flags.
use Rattle.rssd_disk.proofs.handshake.take_flags.Goals as goal

pub returns-then-flags-gt3-clause-none : goal.returns-then-flags-gt3-clause-none
returns-then-flags-gt3-clause-none g c = record {
  flags = c.from_be_bytes-flags.result;
  taken = record { bytes = c.take_all.new.into; long = c.take_all.auto.into; taken = c.in_ok-take_all.ensures.taken; number = c.from_be_bytes-flags.ensures };
  unknown = c.if-flags-gt3.true;
}

pub returns-clause-taken : goal.returns-clause-taken
returns-clause-taken g c = record { bytes = c.take_all.new.into; long = c.take_all.auto.into; taken = c.in_ok-take_all.ensures.taken; number = c.from_be_bytes-flags.ensures }
