-- What the fields of a session make of it.
use Rattle.std.proofs.Common.{◌≡◌, ℕ, ◌<◌, ◌^◌, arith, true, false, Option, None, Some, refl, sym, ap, ◌∙◌, subst}
use Rattle.std.specs.Prelude.{IfSome, IfNone}
use Rattle.std.specs.Option.{option_map}
use Rattle.cell_die.specs.Counts.{count_sum, sum_of}
use Rattle.cell_die.specs.declared.shape.Shape.{Shape}
use Rattle.cell_die.specs.DieState.{DieState}
use Rattle.page_codec.specs.Geometry.{shape_of}
use Rattle.striped.specs.Meaning.{Meaning}
use Rattle.rssd_script.specs.declared.lines.Line.{Line}
use Rattle.rssd_script.specs.declared.lines.Line.TheVariants.{Write, Read, Trim, Idle, Cut, FailRead, Mount, Stat}
use Rattle.rssd_script.specs.declared.replies.Reply.{Reply}
use Rattle.rssd_script.specs.declared.replies.Reply.TheVariants.{Done, Off as SaysOff, Stat as Counted}
use Rattle.rssd_core.specs.declared.device.Counts.{Counts}
use Rattle.rssd_core.specs.declared.device.Plan.{Plan}
use Rattle.rssd_core.specs.declared.device.MountError.{MountError}
use Rattle.rssd_core.specs.DeviceValue.{Numbers, DeviceView, DeviceValue}
use Rattle.rssd_core.specs.Mount.{numbers_of, Fits}
use Rattle.rssd_run.specs.View.{View}
use Rattle.rssd_run.specs.Held.{Tallies, tallies_of, added_tallies}
use Rattle.rssd_run.specs.Step.{AlwaysAnswered}
use Rattle.rssd_run.specs.Steps.{Steps, IsKept, MountDone, MountRefused, refusal_reply}
use Rattle.rssd_run.specs.Shows.{HasDie, Holding, Mounted, Closed, HasNumbers, AreSmall, Parts, SessionValue, ShowsHolding, StepsSession, IsPlanned, IsHeld, IsSession, IsDeviceLine, holding_of}
use Rattle.rssd_run.specs.Shows.{session_of, tallies, stat_of, SaysStat}
use Rattle.rssd_run.proofs.Sessions.{running_steps, stopped_down, closed_down, off_steps, stat_steps, IsClosed, mounted_steps, refused_steps}

-- a line that a device answers is none that is always answered
pub device_line : (line : Line) → IsDeviceLine line → AlwaysAnswered line → ⊥
device_line (Write sector bytes) is always = always
device_line (Read sector) is always = always
device_line (Trim sector) is always = always
device_line (Idle n) is always = always
device_line (Cut n torn) is always = always
device_line (FailRead n) is always = always
device_line Mount is always = is
device_line Stat is always = is

-- ---- what `stat` tells

counted : (d : Numbers) (base : Tallies) (device : DeviceValue) (counts : Counts) (erases : ℕ) → tallies counts ≡ added_tallies base (tallies_of device.view) → erases ≡ sum_of device.view.die.erases
    → (view : View) → ShowsHolding d base (Mounted device) view → Counted counts.first counts.second counts.declined counts.moved erases ≡ stat_of view
counted d base device counts erases counts_are erases_are view shows =
    let here : Counted counts.first counts.second counts.declined counts.moved erases
    ≡ Counted (count_sum base.first device.view.first) (count_sum base.second device.view.second) (count_sum base.declined device.view.declined) (count_sum base.moved device.view.moved)
    (sum_of device.view.die.erases)
    = λ i. Counted (counts_are i).first (counts_are i).second (counts_are i).declined (counts_are i).moved (erases_are i) in
    here ∙ ap (λ (v : DeviceView). Counted v.first v.second v.declined v.moved (sum_of v.die.erases)) (sym shows.0)

counted_closed : (d numbers : Numbers) (base : Counts) (die : DieState) (erases : ℕ) → erases ≡ sum_of die.erases → (view : View) → ShowsHolding d (tallies base) (Closed numbers die) view
    → Counted base.first base.second base.declined base.moved erases ≡ stat_of view
counted_closed d numbers base die erases erases_are view shows =
    let die_is : die ≡ view.device.die = sym shows.0 in
    let base_is : tallies base ≡ tallies_of view.device = sym shows.1 in
    let sums : erases ≡ sum_of view.device.die.erases = erases_are ∙ ap (λ (state : DieState). sum_of state.erases) die_is in
    λ i. Counted (base_is i).first (base_is i).second (base_is i).declined (base_is i).moved (sums i)

-- ---- what closing gives

-- the numbers of a device that runs on this die by this plan
planned : (plan : Plan) (device : DeviceValue) (die : DieState) (meaning : Meaning) → IsHeld plan (Mounted device) → die ≡ device.view.die → meaning ≡ device.numbers.meaning
    → numbers_of die.shape meaning plan ≡ device.numbers
planned plan device die meaning held die_is meaning_is =
    (λ i. numbers_of ((ap (λ (state : DieState). state.shape) die_is ∙ held.1.shape) i) (meaning_is i) plan) ∙ held.0.numbers

module _ {D C F : Type 0} (state : D → DieState) (meaning : C → Meaning) (device : F → DeviceValue) where
  -- a die with its scheme
  abbrev held : D × C → DieState × Meaning
  held pair = (state pair.0, meaning pair.1)

  pub mounted_holding : (p : Parts D C F) (ftl : F) → p.mounted ≡ Some ftl → (session_of state meaning device p).holding ≡ Mounted (device ftl)
  mounted_holding p ftl is = ap (λ m. holding_of p.plan (option_map device m) (option_map held p.closed)) is

  -- ---- lines, where p are the fields and old is the value that they were

  module _ (old p : Parts D C F) (is : p ≡ old) (d : Numbers) (numbers : HasNumbers d (session_of state meaning device old).holding) where
    numbers_of_fields : HasNumbers d (session_of state meaning device p).holding
    numbers_of_fields = subst (λ (q : Parts D C F). HasNumbers d (session_of state meaning device q).holding) (sym is) numbers

    from_fields : (line : Line) (reply : Reply) (new : SessionValue) → StepsSession d line reply (session_of state meaning device p) new
        → StepsSession d line reply (session_of state meaning device old) new
    from_fields line reply new steps = subst (λ (q : Parts D C F). StepsSession d line reply (session_of state meaning device q) new) is steps

    pub no_device_off : p.mounted ≡ None → AreSmall (tallies p.base) → (line : Line) → IsDeviceLine line
        → StepsSession d line SaysOff (session_of state meaning device old) (session_of state meaning device p)
    no_device_off none small line device_is =
        from_fields line SaysOff (session_of state meaning device p)
        (off_steps d (session_of state meaning device p) line (closed_down d (tallies p.base) p.plan (option_map device p.mounted) (option_map held p.closed) (ap (option_map device) none)) small
        (device_line line device_is))

    pub stopped_off : (ftl : F) → p.mounted ≡ Some ftl → (device ftl).stopped ≡ true → AreSmall (tallies p.base) → (line : Line) → IsDeviceLine line
        → StepsSession d line SaysOff (session_of state meaning device old) (record { base = tallies p.base; holding = Mounted (device ftl) })
    stopped_off ftl some stopped small line device_is =
        subst (λ (h : Holding). StepsSession d line SaysOff (session_of state meaning device old) (record { base = tallies p.base; holding = h })) (mounted_holding p ftl some)
        (from_fields line SaysOff (session_of state meaning device p)
        (off_steps d (session_of state meaning device p) line (stopped_down d (session_of state meaning device p) (device ftl) (mounted_holding p ftl some) stopped) small
        (device_line line device_is)))

    pub device_answers : (ftl new : F) (line : Line) (reply : Reply) → p.mounted ≡ Some ftl → (device ftl).stopped ≡ false → Steps (device ftl).numbers line reply (device ftl) (device new)
        → StepsSession d line reply (session_of state meaning device old) (record { base = tallies p.base; holding = Mounted (device new) })
    device_answers ftl new line reply some running steps =
        from_fields line reply (record { base = tallies p.base; holding = Mounted (device new) })
        (running_steps d (session_of state meaning device p) line reply (device ftl) (device new) (mounted_holding p ftl some) running numbers_of_fields steps)

    pub stat_answers : (reply : Reply) → IsSession p.plan (session_of state meaning device p) → SaysStat d (session_of state meaning device p) reply
        → StepsSession d Stat reply (session_of state meaning device old) (session_of state meaning device old)
    stat_answers reply session says =
        subst (λ (q : Parts D C F). StepsSession d Stat reply (session_of state meaning device q) (session_of state meaning device q)) is
        (stat_steps d p.plan (session_of state meaning device p) reply session.held session.small numbers_of_fields says)

  pub closed_holding : (p : Parts D C F) (pair : D × C) → p.mounted ≡ None → p.closed ≡ Some pair
      → (session_of state meaning device p).holding ≡ Closed (numbers_of (state pair.0).shape (meaning pair.1) p.plan) (state pair.0)
  closed_holding p pair none some = λ i. holding_of p.plan (option_map device (none i)) (option_map held (some i))

  pub stat_mounted : (d : Numbers) (p : Parts D C F) (ftl : F) (counts : Counts) (erases : ℕ) (reply : Reply) → p.mounted ≡ Some ftl
      → tallies counts ≡ added_tallies (tallies p.base) (tallies_of (device ftl).view)
      → erases ≡ sum_of (device ftl).view.die.erases → reply ≡ Counted counts.first counts.second counts.declined counts.moved erases → SaysStat d (session_of state meaning device p) reply
  stat_mounted d p ftl counts erases reply some counts_are erases_are is view shows =
      is
      ∙ counted d (tallies p.base) (device ftl) counts erases counts_are erases_are view
      (subst (λ (h : Holding). ShowsHolding d (tallies p.base) h view) (mounted_holding p ftl some) shows)

  pub stat_closed : (d : Numbers) (p : Parts D C F) (pair : D × C) (erases : ℕ) (reply : Reply) → p.mounted ≡ None → p.closed ≡ Some pair → erases ≡ sum_of (state pair.0).erases
      → reply ≡ Counted p.base.first p.base.second p.base.declined p.base.moved erases → SaysStat d (session_of state meaning device p) reply
  stat_closed d p pair erases reply none some erases_are is view shows =
      is
      ∙ counted_closed d (numbers_of (state pair.0).shape (meaning pair.1) p.plan) p.base (state pair.0) erases erases_are view
      (subst (λ (h : Holding). ShowsHolding d (tallies p.base) h view) (closed_holding p pair none some) shows)

  -- ---- mounts: what closing the fields gave

  pub record Gave (p : Parts D C F) (pair : D × C) (base : Counts) : Type 0 where
    pub device_is : IfSome p.mounted (λ ftl. (state pair.0 ≡ (device ftl).view.die) × (meaning pair.1 ≡ (device ftl).numbers.meaning))
    pub counts : IfSome p.mounted (λ ftl. tallies base ≡ added_tallies (tallies p.base) (tallies_of (device ftl).view))
    pub die : IfNone p.mounted ((p.closed ≡ Some pair) × (base ≡ p.base))

  gave_closed : (d : Numbers) (p : Parts D C F) (pair : D × C) (base : Counts) → Gave p pair base → (m : Option F) → p.mounted ≡ m
      → IsClosed d (session_of state meaning device p) (state pair.0) (tallies base)
  gave_closed d p pair base gave (Some ftl) some =
      let facts = rw some at gave.device_is in
      let counts = rw some at gave.counts in
      let shown : (view : View) → ShowsHolding d (tallies p.base) (session_of state meaning device p).holding view → ShowsHolding d (tallies p.base) (Mounted (device ftl)) view
      = λ view shows. subst (λ (h : Holding). ShowsHolding d (tallies p.base) h view) (mounted_holding p ftl some) shows in
      record {
        die_is = λ view shows. ap (λ (v : DeviceView). v.die) (shown view shows).0 ∙ sym facts.0;
        tallies_are = λ view shows. ap tallies_of (shown view shows).0 ∙ sym counts;
        holds = λ other has. sym (subst (HasDie other) (mounted_holding p ftl some) has) ∙ sym facts.0;
      }
  gave_closed d p pair base gave None none =
      let facts = rw none at gave.die in
      let shown : (view : View) → ShowsHolding d (tallies p.base) (session_of state meaning device p).holding view
      → ShowsHolding d (tallies p.base) (Closed (numbers_of (state pair.0).shape (meaning pair.1) p.plan) (state pair.0)) view
      = λ view shows. subst (λ (h : Holding). ShowsHolding d (tallies p.base) h view) (closed_holding p pair none facts.0) shows in
      record {
        die_is = λ view shows. (shown view shows).0;
        tallies_are = λ view shows. (shown view shows).1 ∙ ap tallies (sym facts.1);
        holds = λ other has. sym (subst (HasDie other) (closed_holding p pair none facts.0) has);
      }

  gave_numbers : (d : Numbers) (p : Parts D C F) (pair : D × C) (base : Counts) → Gave p pair base → IsHeld p.plan (session_of state meaning device p).holding
      → HasNumbers d (session_of state meaning device p).holding → (m : Option F) → p.mounted ≡ m → numbers_of (state pair.0).shape (meaning pair.1) p.plan ≡ d
  gave_numbers d p pair base gave is_held numbers (Some ftl) some =
      let facts = rw some at gave.device_is in
      let is : (session_of state meaning device p).holding ≡ Mounted (device ftl) = mounted_holding p ftl some in
      planned p.plan (device ftl) (state pair.0) (meaning pair.1) (subst (IsHeld p.plan) is is_held) facts.0 facts.1 ∙ subst (HasNumbers d) is numbers
  gave_numbers d p pair base gave is_held numbers None none =
      let facts = rw none at gave.die in
      subst (HasNumbers d) (closed_holding p pair none facts.0) numbers

  -- the die that was given fits the plan
  gave_fits : (p : Parts D C F) (pair : D × C) (base : Counts) → Gave p pair base → IsHeld p.plan (session_of state meaning device p).holding → (m : Option F) → p.mounted ≡ m
      → Fits (state pair.0).shape (meaning pair.1) p.plan
  gave_fits p pair base gave is_held (Some ftl) some =
      let facts = rw some at gave.device_is in
      let was : IsHeld p.plan (Mounted (device ftl)) = subst (IsHeld p.plan) (mounted_holding p ftl some) is_held in
      let shape : (state pair.0).shape ≡ shape_of (device ftl).numbers.geometry = ap (λ (die : DieState). die.shape) facts.0 ∙ was.1.shape in
      subst (λ (s : Shape). Fits s (meaning pair.1) p.plan) (sym shape)
      (subst (λ (m : Meaning). Fits (shape_of (device ftl).numbers.geometry) m p.plan) (sym facts.1) was.0.fits)
  gave_fits p pair base gave is_held None none =
      let facts = rw none at gave.die in
      let was : IsHeld p.plan (Closed (numbers_of (state pair.0).shape (meaning pair.1) p.plan) (state pair.0)) = subst (IsHeld p.plan) (closed_holding p pair none facts.0) is_held in
      subst (λ (s : Shape). Fits s (meaning pair.1) p.plan) (sym was.1) was.0.fits

  small_sum : (a b : ℕ) → count_sum a b < 2 ^ 64
  small_sum a b = omega arith

  -- the counts that were given are numbers of 64 bits
  pub gave_small : (p : Parts D C F) (pair : D × C) (base : Counts) → Gave p pair base → AreSmall (tallies p.base) → (m : Option F) → p.mounted ≡ m → AreSmall (tallies base)
  gave_small p pair base gave small (Some ftl) some =
      let counts = rw some at gave.counts in
      subst AreSmall (sym counts) (record {
        first = small_sum p.base.first (device ftl).view.first;
        second = small_sum p.base.second (device ftl).view.second;
        declined = small_sum p.base.declined (device ftl).view.declined;
        moved = small_sum p.base.moved (device ftl).view.moved;
      })
  gave_small p pair base gave small None none = let facts = rw none at gave.die in subst (λ (counts : Counts). AreSmall (tallies counts)) (sym facts.1) small

  -- the device that was mounted again is held
  pub held_again : (p : Parts D C F) (pair : D × C) (base : Counts) → Gave p pair base → IsHeld p.plan (session_of state meaning device p).holding → (new : F)
      → MountDone (numbers_of (state pair.0).shape (meaning pair.1) p.plan) (state pair.0) (device new) → IsHeld p.plan (Mounted (device new))
  held_again p pair base gave is_held new done =
      let d : Numbers = numbers_of (state pair.0).shape (meaning pair.1) p.plan in
      let shape : (state pair.0).shape ≡ shape_of d.geometry = sym done.keeps.shape ∙ done.kept.shape in
      let fits = gave_fits p pair base gave is_held p.mounted refl in
      let is : IsPlanned d p.plan = record { fits = subst (λ (s : Shape). Fits s (meaning pair.1) p.plan) shape fits; numbers = refl } in (
        subst (λ (n : Numbers). IsPlanned n p.plan) (sym done.kept.numbers) is,
        subst (λ (n : Numbers). IsKept n (device new)) (sym done.kept.numbers) done.kept,
      )

  module _ (old p : Parts D C F) (is : p ≡ old) (d : Numbers) (numbers : HasNumbers d (session_of state meaning device old).holding) (pair : D × C) (base : Counts) (gave : Gave p pair base)
      (session : IsSession p.plan (session_of state meaning device p)) where
    pub numbers_are : numbers_of (state pair.0).shape (meaning pair.1) p.plan ≡ d
    numbers_are = gave_numbers d p pair base gave session.held (numbers_of_fields old p is d numbers) p.mounted refl

    closed_so : IsClosed d (session_of state meaning device p) (state pair.0) (tallies base)
    closed_so = gave_closed d p pair base gave p.mounted refl

    pub mount_done : (new : F) → MountDone (numbers_of (state pair.0).shape (meaning pair.1) p.plan) (state pair.0) (device new)
        → StepsSession d Mount Done (session_of state meaning device old) (record { base = tallies base; holding = Mounted (device new) })
    mount_done new done =
        from_fields old p is d numbers Mount Done (record { base = tallies base; holding = Mounted (device new) })
        (mounted_steps d (session_of state meaning device p) (state pair.0) (tallies base) (device new) session.small closed_so
        (subst (λ (n : Numbers). MountDone n (state pair.0) (device new)) numbers_are done))

    pub mount_refused_so : (mounted : Option F) (refused : D × C) (why : MountError) → mounted ≡ None
        → MountRefused (numbers_of (state pair.0).shape (meaning pair.1) p.plan) (state pair.0) (state refused.0) why
        → StepsSession d Mount (refusal_reply why) (session_of state meaning device old)
        (session_of state meaning device (record { mounted = mounted; closed = Some refused; plan = p.plan; base = base }))
    mount_refused_so mounted refused why none r =
        let new : SessionValue = session_of state meaning device (record { mounted = mounted; closed = Some refused; plan = p.plan; base = base }) in
        let new_is : record { base = tallies base; holding = Closed (numbers_of (state refused.0).shape (meaning refused.1) p.plan) (state refused.0) } ≡ new
        = λ i. record { base = tallies base; holding = holding_of p.plan (option_map device (sym none i)) (Some (state refused.0, meaning refused.1)) } in
        from_fields old p is d numbers Mount (refusal_reply why) new
        (subst (λ (s : SessionValue). StepsSession d Mount (refusal_reply why) (session_of state meaning device p) s) new_is
        (refused_steps d (numbers_of (state refused.0).shape (meaning refused.1) p.plan) (session_of state meaning device p) (state pair.0) (state refused.0) (tallies base) why session.small closed_so
        (subst (λ (n : Numbers). MountRefused n (state pair.0) (state refused.0) why) numbers_are r)))
