-- A scheme that was made has the meaning of the head's, and so its sizes.
use Rattle.std.proofs.Common.{◌≡◌, Result, Ok, IfOk, subst}
use Rattle.schemes.specs.Schemes.{meaning_named}
use Rattle.rssd_run.proofs.AuditLaws.{served_named}
use Rattle.rssd_run.proofs.run.audit_run.audit_made.Goals as goal

made_so : {C E : Type 0} (made : Result C E) (scheme : C) (P : C → Type 0) → made ≡ Ok scheme → IfOk made P → P scheme
made_so made scheme P is so = subst (λ r. IfOk r P) is so

pub audit-requires-clause-scheme : goal.audit-requires-clause-scheme
audit-requires-clause-scheme g c =
    served_named c.args.head.now (g.C.Scheme.meaning c.in-Ok.scheme)
    (made_so c.args.made c.in-Ok.scheme (λ s. g.C.Scheme.meaning s ≡ meaning_named c.args.head.now.scheme) c.in-Ok.is c.requires.scheme)
