-- An option that was taken is answered by the table, or the session ends.
use Rattle.std.proofs.Common.{◌≡◌, ◌↔◌, ℕ, ◌≤◌, ◌<◌, Bool, true, false, IsTrue, List, [], length, sym, refl, subst, inl, arith, Result, Ok, Err, IfOk, IfErr}
use Rattle.std.specs.Prelude.{OnOk}
use Rattle.nbd_wire.specs.declared.answer.Answer.TheVariants.{Invalid}
use Rattle.nbd_wire.specs.declared.option.OptionHead.{OptionHead}
use Rattle.nbd_wire.specs.declared.option.OptionKind.{OptionKind}
use Rattle.nbd_wire.specs.Options.{option_bytes, IsOption}
use Rattle.rssd_io.specs.Event.{Event}
use Rattle.rssd_io.specs.Pieces.{Gives, StopsAt}
use Rattle.rssd_disk.specs.declared.handshake.Next.{Next}
use Rattle.rssd_disk.specs.declared.handshake.Next.TheVariants.{Another}
use Rattle.rssd_disk.specs.declared.serving.Ended.{Ended}
use Rattle.rssd_disk.specs.declared.serving.Ended.TheVariants.{Left, Cut, NotProtocol, ReadFault, WriteFault, NoPower}
use Rattle.rssd_disk.specs.Streams.{Takes, HasStopped}
use Rattle.rssd_disk.specs.Handshakes.{said, told_to, follows, MayHave, Fits, Answered, AnswerFails, TakesOption, AnswersOption, FailsOption, NoFlags, NoHead, NoAnswer, EndsOptions}
use Rattle.rssd_disk.proofs.Streams.{takes_trans}

-- ---- answers

-- data within the room that are as they must be fit
pub answered_short : (kind : OptionKind) (bytes : List ℕ) {answer : List (List ℕ)} {behind next : Next} {to given : List Event} → length bytes ≤ 1048592
    → Answered (MayHave kind bytes) kind answer behind next to given → Answered (Fits kind bytes) kind answer behind next to given
answered_short kind bytes short a = record { fits = a.fits; is_fit = (λ yes. (short, a.is_fit.0 yes), λ fit. a.is_fit.1 fit.1); next_is = a.next_is; gave = a.gave }

pub fails_short : (kind : OptionKind) (bytes : List ℕ) {answer : List (List ℕ)} {to given : List Event} → length bytes ≤ 1048592
    → AnswerFails (MayHave kind bytes) kind answer to given → AnswerFails (Fits kind bytes) kind answer to given
fails_short kind bytes short a = record { fits = a.fits; is_fit = (λ yes. (short, a.is_fit.0 yes), λ fit. a.is_fit.1 fit.1); stops = a.stops }

-- ---- options

-- a head was taken, and the bytes behind it
abbrev pub takes_option : {from mid left : List Event} (head : OptionHead) (bytes : List ℕ) → IsOption head → Takes from mid (option_bytes head) → length bytes ≡ head.length → Takes mid left bytes
    → TakesOption from left
takes_option head bytes spelled first long second = record { head = head; spelled = spelled; bytes = bytes; long = long; taken = takes_trans first second }

-- ---- ends

pub stopped_head : (ended : Ended) (from left : List Event) → HasStopped ended left → NoHead ended from left
stopped_head Left from left h = absurd h
stopped_head Cut from left h = h
stopped_head NotProtocol from left h = absurd h
stopped_head ReadFault from left h = h
stopped_head WriteFault from left h = absurd h
stopped_head NoPower from left h = absurd h

pub stopped_flags : (ended : Ended) (from left : List Event) → HasStopped ended left → NoFlags ended from left
stopped_flags Left from left h = absurd h
stopped_flags Cut from left h = h
stopped_flags NotProtocol from left h = absurd h
stopped_flags ReadFault from left h = h
stopped_flags WriteFault from left h = absurd h
stopped_flags NoPower from left h = absurd h

pub head_answer : (size flags : ℕ) (ended : Ended) (from left log : List Event) → NoHead ended from left → NoAnswer size flags ended from left log log
head_answer size flags Left from left log h = absurd h
head_answer size flags Cut from left log h = (h, refl)
head_answer size flags NotProtocol from left log h = (h, refl)
head_answer size flags ReadFault from left log h = (h, refl)
head_answer size flags WriteFault from left log h = absurd h
head_answer size flags NoPower from left log h = absurd h

pub stopped_answer : (size flags : ℕ) (ended : Ended) (from left log : List Event) → HasStopped ended left → NoAnswer size flags ended from left log log
stopped_answer size flags ended from left log h = head_answer size flags ended from left log (stopped_head ended from left h)

pub fails_answer : (size flags : ℕ) (ended : Ended) (from left to given : List Event) → ended ≡ WriteFault → FailsOption size flags from left to given → NoAnswer size flags ended from left to given
fails_answer size flags ended from left to given fault fails = subst (λ (e : Ended). NoAnswer size flags e from left to given) (sym fault) fails

pub answer_ends : (size flags count : ℕ) (ended : Ended) (from left to given : List Event) → NoAnswer size flags ended from left to given → EndsOptions size flags count ended from left to given
answer_ends size flags count Left from left to given h = absurd h.0
answer_ends size flags count Cut from left to given h = h
answer_ends size flags count NotProtocol from left to given h = (inl h.0, h.1)
answer_ends size flags count ReadFault from left to given h = h
answer_ends size flags count WriteFault from left to given h = h
answer_ends size flags count NoPower from left to given h = h

-- ---- results of the calls that answer

-- the data do not fit: they are longer than the room
long_unfit : (fits : Bool) (kind : OptionKind) (bytes : List ℕ) → fits ≡ false → 1048592 < length bytes → IsTrue fits ↔ Fits kind bytes
long_unfit true kind bytes e long = absurd (let no : ⊥ = cc in no)
long_unfit false kind bytes e long = (λ yes. absurd (let no : ⊥ = cc in no), λ fit. absurd (omega (arith, fit.0)))

pub long_answered : (size flags : ℕ) (r : Result Next Ended) {from left : List Event} (to given : List Event) (option : TakesOption from left) → 1048592 < length option.bytes
    → IfOk r (λ next. next ≡ Another)
    → OnOk r (Gives (said option.head.kind Invalid []) to given) → IfOk r (λ next. AnswersOption size flags next from left to given)
long_answered size flags (Ok next) to given option long is gave = record {
  option = option;
  answered = record { fits = false; is_fit = long_unfit false option.head.kind option.bytes refl long; next_is = is; gave = gave };
}
long_answered size flags (Err ended) to given option long is gave = tt

pub long_fails : (size flags : ℕ) (r : Result Next Ended) {from left : List Event} (to given : List Event) (option : TakesOption from left) → 1048592 < length option.bytes
    → IfErr r (λ ended. ended ≡ WriteFault)
    → IfErr r (λ ended. StopsAt (said option.head.kind Invalid []) to given) → IfErr r (λ ended. NoAnswer size flags ended from left to given)
long_fails size flags (Ok next) to given option long fault stops = tt
long_fails size flags (Err ended) {from} {left} to given option long fault stops = fails_answer size flags ended from left to given fault (record {
  option = option;
  fails = record { fits = false; is_fit = long_unfit false option.head.kind option.bytes refl long; stops = stops };
})

pub option_answered : (size flags : ℕ) (r : Result Next Ended) {from left : List Event} (to given : List Event) (option : TakesOption from left) → length option.bytes ≤ 1048592
    → IfOk r (λ next. Answered (MayHave option.head.kind option.bytes) option.head.kind (told_to size flags option.head.kind) (follows option.head.kind) next to given)
    → IfOk r (λ next. AnswersOption size flags next from left to given)
option_answered size flags (Ok next) to given option short answered = record { option = option; answered = answered_short option.head.kind option.bytes short answered }
option_answered size flags (Err ended) to given option short answered = tt

pub option_fails : (size flags : ℕ) (r : Result Next Ended) {from left : List Event} (to given : List Event) (option : TakesOption from left) → length option.bytes ≤ 1048592
    → IfErr r (λ ended. ended ≡ WriteFault)
    → IfErr r (λ ended. AnswerFails (MayHave option.head.kind option.bytes) option.head.kind (told_to size flags option.head.kind) to given)
    → IfErr r (λ ended. NoAnswer size flags ended from left to given)
option_fails size flags (Ok next) to given option short fault fails = tt
option_fails size flags (Err ended) {from} {left} to given option short fault fails =
    fails_answer size flags ended from left to given fault (record { option = option; fails = fails_short option.head.kind option.bytes short fails })
