use Rattle.rssd_run.proofs.run.session.SessionStepping.step.Goals as goal

pub returns-in-Mount-clause-step : goal.returns-in-Mount-clause-step
returns-in-Mount-clause-step g c = rw c.in-Mount.is c.mount.ensures.step

pub returns-in-Stat-clause-step : goal.returns-in-Stat-clause-step
returns-in-Stat-clause-step g c = rw c.in-Stat.is c.stat.ensures.step

pub returns-in-Mount-clause-answers : goal.returns-in-Mount-clause-answers
returns-in-Mount-clause-answers g c = rw c.in-Mount.is c.mount.ensures.answers

pub returns-in-Stat-clause-answers : goal.returns-in-Stat-clause-answers
returns-in-Stat-clause-answers g c = rw c.in-Stat.is c.stat.ensures.answers
