-- What is said before the requests: the greeting and the client's flags, and then options, each answered once, in its order.
use Rattle.std.specs.Prelude.{◌≡◌, ◌≢◌, ◌↔◌, ℕ, ◌+◌, ◌-◌, ◌^◌, ◌<◌, ◌≤◌, ◌==◌, Bool, true, false, IsTrue, Option, if◌then◌else◌, bit_and, List, [], ◌∷◌, ◌++◌, length, replicate, ◌⊎◌}
use Rattle.std.specs.Int.{from_be_bytes, w32}
use Rattle.nbd_wire.specs.declared.answer.Answer.{Answer}
use Rattle.nbd_wire.specs.declared.answer.Answer.TheVariants.{Acknowledged, Named, Told, Unsupported, Invalid}
use Rattle.nbd_wire.specs.declared.answer.Export.{Export}
use Rattle.nbd_wire.specs.declared.option.OptionHead.{OptionHead}
use Rattle.nbd_wire.specs.declared.option.OptionKind.{OptionKind}
use Rattle.nbd_wire.specs.declared.option.OptionKind.TheVariants.{ExportName, Abort, ListExports, Info, Go, Other}
use Rattle.nbd_wire.specs.Answers.{greeting_bytes, answer_bytes, export_bytes, size_bytes, lengths_bytes}
use Rattle.nbd_wire.specs.Numbers.{word}
use Rattle.nbd_wire.specs.Options.{option_bytes, IsOption, IsChoice}
use Rattle.rssd_io.specs.Event.{Event}
use Rattle.rssd_io.specs.Pieces.{Gives, StopsAt}
use Rattle.rssd_disk.specs.declared.handshake.Next.{Next}
use Rattle.rssd_disk.specs.declared.handshake.Next.TheVariants.{Another, Requests, Leave}
use Rattle.rssd_disk.specs.declared.serving.Ended.{Ended}
use Rattle.rssd_disk.specs.declared.serving.Ended.TheVariants.{Left, NotProtocol, WriteFault}
use Rattle.rssd_disk.specs.Rules.{longest}
use Rattle.rssd_disk.specs.Sessions.{Answering, EndsAfter}
use Rattle.rssd_disk.specs.Streams.{Takes, HasStopped}

-- what a client is told of a disk of so many bytes: its size, and the least, the best and the greatest length of a request
abbrev pub export_of : ℕ → Export
export_of size = record { size = size; least = 1; best = 4096; most = longest }

-- an answer: its head, and behind it its data
abbrev pub said : OptionKind → Answer → List ℕ → List (List ℕ)
said kind answer bytes = answer_bytes (record { kind = kind; answer = answer; length = length bytes }) ∷ bytes ∷ []

-- the answer to `ExportName`, which has no head: the size, and zero bytes where the flags do not say that the client wants none
abbrev pub name_told : ℕ → ℕ → List (List ℕ)
name_told size flags = export_bytes (export_of size) ∷ (if bit_and flags 2 == 0 then replicate 124 0 ∷ [] else [])

-- the answer to `ListExports`: there is one, and its name has no byte
abbrev pub list_told : List (List ℕ)
list_told = said ListExports Named (word 0) ++ said ListExports Acknowledged []

-- the answer to `Info` and `Go`: the size, and the lengths of requests
abbrev pub choice_told : OptionKind → ℕ → List (List ℕ)
choice_told kind size = said kind Told (size_bytes (export_of size)) ++ (said kind Told (lengths_bytes (export_of size)) ++ said kind Acknowledged [])

-- The table of options: the answer to each kind, by the disk's size and the client's flags, where its data are as they must be.
abbrev pub told_to : ℕ → ℕ → OptionKind → List (List ℕ)
told_to size flags ExportName = name_told size flags
told_to size flags Abort = said Abort Acknowledged []
told_to size flags ListExports = list_told
told_to size flags Info = choice_told Info size
told_to size flags Go = choice_told Go size
told_to size flags (Other number) = said (Other number) Unsupported []

-- and what follows it
abbrev pub follows : OptionKind → Next
follows ExportName = Requests
follows Abort = Leave
follows ListExports = Another
follows Info = Another
follows Go = Requests
follows (Other number) = Another

-- how the data of each kind must be
abbrev pub MayHave : OptionKind → List ℕ → Type 0
MayHave ListExports bytes = bytes ≡ []
MayHave Info bytes = IsChoice bytes
MayHave Go bytes = IsChoice bytes
MayHave _ bytes = Unit {0}

-- and not longer than the room of a session
abbrev pub Fits : OptionKind → List ℕ → Type 0
Fits kind bytes = (length bytes ≤ 1048592) × MayHave kind bytes

-- the pieces that are given: the answer, or that the data are not as they must be
abbrev pub pieces_of : OptionKind → List (List ℕ) → Bool → List (List ℕ)
pieces_of kind answer true = answer
pieces_of kind answer false = said kind Invalid []

abbrev pub next_of : Next → Bool → Next
next_of next true = next
next_of next false = Another

-- An option was answered: where its data fit, with this answer and what follows it, and else with `Invalid` and the next option.
pub record Answered (Fit : Type 0) (kind : OptionKind) (answer : List (List ℕ)) (behind next : Next) (to given : List Event) : Type 0 where
  pub fits : Bool
  pub is_fit : IsTrue fits ↔ Fit
  pub next_is : next ≡ next_of behind fits
  pub gave : Gives (pieces_of kind answer fits) to given

-- a give of the answer failed: the pieces before it were given, and a front of that one
pub record AnswerFails (Fit : Type 0) (kind : OptionKind) (answer : List (List ℕ)) (to given : List Event) : Type 0 where
  pub fits : Bool
  pub is_fit : IsTrue fits ↔ Fit
  pub stops : StopsAt (pieces_of kind answer fits) to given

-- an option was taken: its head, and behind it so many bytes of data as that says
pub record TakesOption (from left : List Event) : Type 0 where
  pub head : OptionHead
  pub spelled : IsOption head
  pub bytes : List ℕ
  pub long : length bytes ≡ head.length
  pub taken : Takes from left (option_bytes head ++ bytes)

-- and answered by the table
pub record AnswersOption (size flags : ℕ) (next : Next) (from left to given : List Event) : Type 0 where
  pub option : TakesOption from left
  pub answered : Answered (Fits option.head.kind option.bytes) option.head.kind (told_to size flags option.head.kind) (follows option.head.kind) next to given

-- so many options were answered, each once, in their order, and behind each the next
pub data AnswersOptions (size flags : ℕ) (from to : List Event) : ℕ → List Event → List Event → Type 0 where
  none : AnswersOptions size flags from to 0 from to
  more : {count : ℕ} {left rest given all : List Event} → AnswersOptions size flags from to count left given → AnswersOption size flags Another left rest given all
      → AnswersOptions size flags from to (count + 1) rest all

-- flags were taken: a number of four bytes, the highest first
pub record TakesFlags (flags : ℕ) (from left : List Event) : Type 0 where
  pub bytes : List ℕ
  pub long : length bytes ≡ 4
  pub taken : Takes from left bytes
  pub number : flags ≡ from_be_bytes w32 bytes

-- the greeting was given, and the client's flags were taken, which a server knows
pub record Greets (flags : ℕ) (from left to given : List Event) : Type 0 where
  pub gave : Gives (greeting_bytes ∷ []) to given
  pub taken : TakesFlags flags from left
  pub known : flags ≤ 3

-- Options were answered, and requests follow the last.
pub record AgreesOn (size flags : ℕ) (from left to given : List Event) : Type 0 where
  pub count : ℕ
  pub taken : List Event
  pub told_so_far : List Event
  pub options : AnswersOptions size flags from to count taken told_so_far
  pub last : AnswersOption size flags Requests taken left told_so_far given

-- The client was greeted before.
pub record Agrees (size : ℕ) (from left to given : List Event) : Type 0 where
  pub flags : ℕ
  pub taken : List Event
  pub greeted : List Event
  pub greets : Greets flags from taken to greeted
  pub agrees : AgreesOn size flags taken left greeted given

-- flags were taken that a server does not know
pub record TakesUnknown (from left : List Event) : Type 0 where
  pub flags : ℕ
  pub taken : TakesFlags flags from left
  pub unknown : 3 < flags

-- why no flags were taken
abbrev pub NoFlags : Ended → List Event → List Event → Type 0
NoFlags NotProtocol from left = TakesUnknown from left
NoFlags ended from left = HasStopped ended left

-- so many bytes were taken as an option's head has, and they are none
pub record TakesNoOption (from left : List Event) : Type 0 where
  pub bytes : List ℕ
  pub long : length bytes ≡ 16
  pub taken : Takes from left bytes
  pub none : (option : OptionHead) → IsOption option → bytes ≢ option_bytes option

-- why no option's head was taken
abbrev pub NoHead : Ended → List Event → List Event → Type 0
NoHead NotProtocol from left = TakesNoOption from left
NoHead ended from left = HasStopped ended left

-- an option was taken, and its answer was not given whole
pub record FailsOption (size flags : ℕ) (from left to given : List Event) : Type 0 where
  pub option : TakesOption from left
  pub fails : AnswerFails (Fits option.head.kind option.bytes) option.head.kind (told_to size flags option.head.kind) to given

-- How an option is not answered: its answer was not given whole; or what came is no option or not a whole one, and nothing is given.
abbrev pub NoAnswer : ℕ → ℕ → Ended → List Event → List Event → List Event → List Event → Type 0
NoAnswer size flags WriteFault from left to given = FailsOption size flags from left to given
NoAnswer size flags ended from left to given = NoHead ended from left × (given ≡ to)

-- How options end with no requests behind them: the client says that it leaves, and this is answered; or the next one is not answered,
-- or is not taken, since so many came.
abbrev pub EndsOptions : ℕ → ℕ → ℕ → Ended → List Event → List Event → List Event → List Event → Type 0
EndsOptions size flags count Left from left to given = AnswersOption size flags Leave from left to given
EndsOptions size flags count NotProtocol from left to given = (TakesNoOption from left ⊎ (count ≡ 2 ^ 64 - 1)) × (given ≡ to)
EndsOptions size flags count ended from left to given = NoAnswer size flags ended from left to given

-- options were answered, and then they ended
pub record EndsOn (size flags : ℕ) (ended : Ended) (from left to given : List Event) : Type 0 where
  pub count : ℕ
  pub taken : List Event
  pub told_so_far : List Event
  pub options : AnswersOptions size flags from to count taken told_so_far
  pub ends : EndsOptions size flags count ended taken left told_so_far given

-- How a handshake ends with no requests behind it: the greeting was not given whole; or the flags did not come; or the options ended.
pub data EndsHandshake (size : ℕ) (ended : Ended) (from left to given : List Event) : Type 0 where
  at_greeting : ended ≡ WriteFault → left ≡ from → StopsAt (greeting_bytes ∷ []) to given → EndsHandshake size ended from left to given
  at_flags : Gives (greeting_bytes ∷ []) to given → NoFlags ended from left → EndsHandshake size ended from left to given
  at_option : {flags : ℕ} {taken greeted : List Event} → Greets flags from taken to greeted → EndsOn size flags ended taken left greeted given → EndsHandshake size ended from left to given

-- A session: its handshake, and then its requests. Where no requests follow the disk is as it was.
pub data Session {K : Type 0} (answers : Answering K) (power : K → Option Bool) (size : ℕ) (ended : Ended) (disk last : K) (from left to given : List Event) : Type 0 where
  unmet : EndsHandshake size ended from left to given → last ≡ disk → Session answers power size ended disk last from left to given
  met : {taken told_so_far : List Event} → Agrees size from taken to told_so_far → EndsAfter answers power ended disk last taken left told_so_far given
      → Session answers power size ended disk last from left to given
