-- Requests that are answered one after another.
use Rattle.std.specs.Prelude.{◌≡◌, ◌≢◌, ◌⊎◌, ℕ, ◌+◌, ◌-◌, ◌^◌, ◌≤◌, Bool, true, false, Option, IfSome, List, [], ◌∷◌, ◌++◌, length}
use Rattle.nbd_wire.specs.declared.command.Command.{Command}
use Rattle.nbd_wire.specs.declared.command.Command.TheVariants.{Read, Write, Disconnect}
use Rattle.nbd_wire.specs.declared.reply.Errno.{Errno}
use Rattle.nbd_wire.specs.declared.reply.Errno.TheVariants.{Done}
use Rattle.nbd_wire.specs.declared.request.Request.{Request}
use Rattle.nbd_wire.specs.Requests.{request_bytes, IsRequest}
use Rattle.nbd_wire.specs.Replies.{reply_bytes}
use Rattle.rssd_io.specs.Event.{Event, moved}
use Rattle.rssd_disk.specs.declared.serving.Ended.{Ended}
use Rattle.rssd_disk.specs.declared.serving.Ended.TheVariants.{Left, NotProtocol, WriteFault, NoPower}
use Rattle.rssd_disk.specs.Rules.{longest, data_length}
use Rattle.rssd_disk.specs.Streams.{Takes, HasStopped}

-- What stands behind the head of a request: the bytes of a write, of which those of one that is too long are passed over.
abbrev pub IsBehind : Request → Command → List ℕ → List ℕ → Type 0
IsBehind r Write before behind = (length behind ≡ r.length) × (r.length ≤ longest → behind ≡ before)
IsBehind r _ before behind = behind ≡ []

-- it was taken
pub record Brings (r : Request) (old new : List Event) (before : List ℕ) : Type 0 where
  pub behind : List ℕ
  pub is_behind : IsBehind r r.command before behind
  pub taken : Takes old new behind

-- what stands behind the head of a reply: the data that a read answers
abbrev pub told : Command → Errno → List ℕ → List ℕ
told Read Done answered = answered
told _ _ answered = []

-- how many bytes these are
abbrev pub told_length : Command → Errno → ℕ → ℕ
told_length Read Done count = count
told_length _ _ count = 0

-- the bytes of a reply
abbrev pub reply_to : Request → Errno → List ℕ → List ℕ
reply_to r reply answered = reply_bytes (record { error = reply; handle = r.handle }) ++ told r.command reply answered

-- nothing was asked of the disk
abbrev pub IsQuiet : Ended → Type 0
IsQuiet WriteFault = ⊥
IsQuiet NoPower = ⊥
IsQuiet _ = Unit {0}

-- how a disk answers
abbrev pub Answering : Type 0 → Type 1
Answering K = K → K → Request → List ℕ → List ℕ → Errno → Type 0

-- a request was taken, and asked of the disk
pub record Asks {K : Type 0} (answers : Answering K) (disk next : K) (from left : List Event) : Type 0 where
  pub request : Request
  pub spelled : IsRequest request
  pub before : List ℕ
  pub after : List ℕ
  pub long : length after ≡ data_length request
  pub behind : List ℕ
  pub is_behind : IsBehind request request.command before behind
  pub taken : Takes from left (request_bytes request ++ behind)
  pub reply : Errno
  pub asked : answers disk next request before after reply

-- and answered, once and with its handle; where the power is told, it is there
pub record AnswersOne {K : Type 0} (answers : Answering K) (power : K → Option Bool) (disk next : K) (from left to given : List Event) : Type 0 where
  pub asks : Asks answers disk next from left
  pub powered : IfSome (power next) (λ there. there ≡ true)
  pub replied : given ≡ to ++ moved (reply_to asks.request asks.reply asks.after) ∷ []

-- so many requests were answered, each once, in their order
pub data AnswersAll {K : Type 0} (answers : Answering K) (power : K → Option Bool) (disk : K) (from to : List Event) : ℕ → K → List Event → List Event → Type 0 where
  none : AnswersAll answers power disk from to 0 disk from to
  more : {count : ℕ} {mid next : K} {left rest given all : List Event} → AnswersAll answers power disk from to count mid left given → AnswersOne answers power mid next left rest given all
      → AnswersAll answers power disk from to (count + 1) next rest all

-- so many bytes were taken as a request's head has, and they are none
pub record TakesNoRequest (from left : List Event) : Type 0 where
  pub bytes : List ℕ
  pub long : length bytes ≡ 28
  pub taken : Takes from left bytes
  pub none : (request : Request) → IsRequest request → bytes ≢ request_bytes request

-- the client said that it leaves
pub record TakesLeave (from left : List Event) : Type 0 where
  pub request : Request
  pub spelled : IsRequest request
  pub leaves : request.command ≡ Disconnect
  pub taken : Takes from left (request_bytes request)

-- why no request was taken
abbrev pub NoRequest : Ended → List Event → List Event → Type 0
NoRequest NotProtocol from left = TakesNoRequest from left
NoRequest Left from left = TakesLeave from left
NoRequest ended from left = HasStopped ended left

-- How the next request is not answered: where it did not come whole, is not the protocol or says that the client leaves, the disk is
-- as it was and nothing is given; else it was asked of the disk, and the reply was not given. Where the power is told, it is gone.
abbrev pub EndsSo : {K : Type 0} → Answering K → (K → Option Bool) → Ended → K → K → List Event → List Event → List Event → List Event → Type 0
EndsSo answers power WriteFault disk next from left to given = Asks answers disk next from left
EndsSo answers power NoPower disk next from left to given = Asks answers disk next from left × (given ≡ to) × IfSome (power next) (λ there. there ≡ false)
EndsSo answers power ended disk next from left to given = NoRequest ended from left × (next ≡ disk) × (given ≡ to)

-- the same after so many requests: more are not taken
abbrev pub EndsBehind : {K : Type 0} → Answering K → (K → Option Bool) → ℕ → Ended → K → K → List Event → List Event → List Event → List Event → Type 0
EndsBehind answers power count NotProtocol disk next from left to given = (TakesNoRequest from left ⊎ (count ≡ 2 ^ 64 - 1)) × (next ≡ disk) × (given ≡ to)
EndsBehind answers power count ended disk next from left to given = EndsSo answers power ended disk next from left to given

-- requests were answered, and the next was not
pub record EndsAfter {K : Type 0} (answers : Answering K) (power : K → Option Bool) (ended : Ended) (disk last : K) (from left to given : List Event) : Type 0 where
  pub count : ℕ
  pub mid : K
  pub taken : List Event
  pub told_to : List Event
  pub answered : AnswersAll answers power disk from to count mid taken told_to
  pub ends : EndsBehind answers power count ended mid last taken left told_to given
