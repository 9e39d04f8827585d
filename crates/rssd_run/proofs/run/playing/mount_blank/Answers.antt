-- A blank die of a head that is within the limits is refused only for want of memory.
use Rattle.std.proofs.Common.{◌≡◌, inl, inr}
use Rattle.rssd_core.specs.declared.device.MountError.TheVariants.{OutOfMemory}
use Rattle.rssd_run.proofs.PlayStart.{IsGivenBlank, never_refused}
use Rattle.rssd_run.proofs.run.playing.mount_blank.Goals as goal

pub unreachable-requires : goal.unreachable-requires
unreachable-requires g c =
    let given : IsGivenBlank c.args.head.now (g.D.Die.state c.args.die) = record { within = c.requires.within; shaped = g.met.D.Die.shaped c.args.die; blank = c.requires.blank } in
    let refused = c.in-Err.refused in
    let memory : refused.why ≡ OutOfMemory = never_refused c.args.head.now (g.D.Die.state c.args.die) given (g.C.Scheme.meaning c.args.scheme) c.requires.scheme
    (g.D.Die.state refused.die) refused.why (c.requires.mounts refused.die) c.in-Err.ensures.shape.0 c.in-Err.ensures.refused in
    elim c.in-Shape.is [
      | inl bad_shape ↦ cc
      | inr other ↦ elim other [ inl fault ↦ cc | inr spare ↦ cc ]
    ]
