-- The die is of its head's shape and no mount of it fails, so it is refused only for want of memory or of a spare block.
use Rattle.std.proofs.Common.{◌≡◌, inl, inr}
use Rattle.rssd_core.specs.declared.device.MountError.TheVariants.{NoSpare}
use Rattle.rssd_lab.proofs.Starts.{refused_within, mounts_within}
use Rattle.rssd_lab.proofs.on_die.mount.Goals as goal

pub unreachable-requires : goal.unreachable-requires
unreachable-requires g c =
    let ready = c.args.ready in
    elim (refused_within g.D.Die.state c.in-Ok.ensures.inner ready.head ready.within ready.shape (g.C.Scheme.meaning c.args.scheme) c.requires
    c.in-Err.refused.die.inner c.in-Err.refused.why ready.mounts c.in-Err.ensures.shape.0 c.in-Err.ensures.refused) [
      | inl memory ↦ elim c.in-Shape.is [ inl bad_shape ↦ cc | inr fault ↦ cc ]
      | inr spare ↦ (let is : c.in-Err.refused.why ≡ NoSpare = spare.0 in elim c.in-Shape.is [ inl bad_shape ↦ cc | inr fault ↦ cc ])
    ]

pub returns-in-Ok-mount-clause-mounted : goal.returns-in-Ok-mount-clause-mounted
returns-in-Ok-mount-clause-mounted g c =
    let ready = c.args.ready in
    mounts_within g.D.Die.state c.in-Ok.ensures.inner ready.head ready.within ready.shape (g.C.Scheme.meaning c.args.scheme) c.requires
    (g.F.Device.device c.in-Ok-mount.ftl) c.in-Ok-mount.ensures.mounted

pub returns-in-NoSpare-clause-refused : goal.returns-in-NoSpare-clause-refused
returns-in-NoSpare-clause-refused g c =
    let ready = c.args.ready in
    elim (refused_within g.D.Die.state c.in-Ok.ensures.inner ready.head ready.within ready.shape (g.C.Scheme.meaning c.args.scheme) c.requires
    c.in-Err.refused.die.inner c.in-Err.refused.why ready.mounts c.in-Err.ensures.shape.0 c.in-Err.ensures.refused) [
      | inl memory ↦ (let is : c.in-Err.refused.why ≡ NoSpare = c.in-NoSpare.is in absurd cc)
      | inr spare ↦ spare.1
    ]
