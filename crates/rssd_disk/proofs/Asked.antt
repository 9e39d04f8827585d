-- A request that was taken is asked, and its reply has its handle.
use Rattle.std.proofs.Common.{◌≡◌, ℕ, ◌+◌, ◌-◌, ◌≤◌, Bool, Option, Some, None, IfSome, List, ◌++◌, length, take, drop, sym, ◌∙◌, ap, refl, arith, subst, Result, Ok, Err, IfErr}
use borrow.Rule.Slice.PartMut.{put_mid}
use Rattle.std.proofs.Math.Seq.{take-append-add}
use Rattle.std.proofs.lemmas.List.{length-take, length-drop, drop_at, take_at}
use Rattle.nbd_wire.specs.declared.command.Command.{Command}
use Rattle.nbd_wire.specs.declared.command.Command.TheVariants.{Read, Write, Disconnect, Flush, Trim, Cache, WriteZeroes, Other}
use Rattle.nbd_wire.specs.declared.reply.Errno.{Errno}
use Rattle.nbd_wire.specs.declared.reply.Errno.TheVariants.{Done, InputOutput, Invalid, NoSpace}
use Rattle.nbd_wire.specs.declared.request.Request.{Request}
use Rattle.nbd_wire.specs.Requests.{request_bytes, IsRequest}
use Rattle.nbd_wire.specs.Replies.{reply_bytes}
use Rattle.rssd_io.specs.Event.{Event}
use Rattle.rssd_disk.specs.declared.serving.Ended.{Ended}
use Rattle.rssd_disk.specs.declared.serving.Ended.TheVariants.{WriteFault}
use Rattle.rssd_disk.specs.Bytes.{part_of}
use Rattle.rssd_disk.specs.Rules.{data_length}
use Rattle.rssd_disk.specs.Streams.{Takes}
use Rattle.rssd_disk.specs.Sessions.{Answering, Brings, Asks, EndsSo, told, told_length, reply_to}
use Rattle.rssd_disk.proofs.Streams.{takes_trans}

-- the data of a request lie in the room behind the head of a reply
pub data_in : (count n : ℕ) (room : List ℕ) → count ≡ n → take (16 + count - 16) (drop 16 room) ≡ part_of 16 n room
data_in count n room same = let few : 16 + count - 16 ≡ n = omega arith in ap (λ k. take k (drop 16 room)) few

pub long_data : (count n : ℕ) (room after : List ℕ) → count ≡ n → count ≤ 1048576 → length room ≡ 1048592 → length after ≡ length (take (16 + count - 16) (drop 16 room)) → length after ≡ n
long_data count n room after same few wide as_long =
    as_long ∙ length-take (16 + count - 16) (drop 16 room) ∙ omega (arith, length-drop 16 room)

unfoldable pub asks_of : {K : Type 0} (answers : Answering K) (disk next : K) {from mid left : List Event} {request : Request} (count : ℕ) (room after : List ℕ) (reply : Errno)
    → IsRequest request → Takes from mid (request_bytes request) → Brings request mid left (part_of 16 (data_length request) room)
    → count ≡ data_length request → count ≤ 1048576 → length room ≡ 1048592 → length after ≡ length (take (16 + count - 16) (drop 16 room))
    → answers disk next request (take (16 + count - 16) (drop 16 room)) after reply → Asks answers disk next from left
asks_of answers disk next {request = request} count room after reply spelled head brings same few wide as_long asked = record {
  request = request;
  spelled = spelled;
  before = part_of 16 (data_length request) room;
  after = after;
  long = long_data count (data_length request) room after same few wide as_long;
  behind = brings.behind;
  is_behind = brings.is_behind;
  taken = takes_trans head brings.taken;
  reply = reply;
  asked = subst (λ (l : List ℕ). answers disk next request l after reply) (data_in count (data_length request) room same) asked;
}

-- what is told of the power is what was found of it
pub power_found : (told : Option Bool) (found wanted : Bool) → IfSome told (λ there. found ≡ there) → found ≡ wanted → IfSome told (λ there. there ≡ wanted)
power_found None found wanted is same = tt
power_found (Some there) found wanted is same = sym is ∙ same

-- what stands in a room behind the head is what was put there
pub put_mid_part : (k n : ℕ) (room piece : List ℕ) → 16 ≤ length room → length piece ≡ n → part_of 16 n (put_mid 16 k room piece) ≡ piece
put_mid_part k n room piece fits long =
    ap (take n) (drop_at (take 16 room) (piece ++ drop k (drop 16 room)) 16 (length-take 16 room ∙ omega arith)) ∙ take_at piece (drop k (drop 16 room)) n long

told_is : (command : Command) (reply : Errno) (n : ℕ) (l : List ℕ) → told command reply (take n l) ≡ take (told_length command reply n) l
told_is Read Done n l = refl
told_is Read InputOutput n l = refl
told_is Read Invalid n l = refl
told_is Read NoSpace n l = refl
told_is Write reply n l = refl
told_is Disconnect reply n l = refl
told_is Flush reply n l = refl
told_is Trim reply n l = refl
told_is Cache reply n l = refl
told_is WriteZeroes reply n l = refl
told_is (Other number) reply n l = refl

pub reply_piece : (r : Request) (reply : Errno) (head room : List ℕ) (count : ℕ) → head ≡ reply_bytes (record { error = reply; handle = r.handle }) → length head ≡ 16
    → count ≡ told_length r.command reply (data_length r) → take (16 + count) (head ++ drop 16 room) ≡ reply_to r reply (part_of 16 (data_length r) room)
reply_piece r reply head room count is long counted =
    ap (λ n. take (n + count) (head ++ drop 16 room)) (sym long)
    ∙ take-append-add head (drop 16 room) count
    ∙ ap (λ l. l ++ take count (drop 16 room)) is
    ∙ ap (λ l. reply_bytes (record { error = reply; handle = r.handle }) ++ l) (ap (λ n. take n (drop 16 room)) counted ∙ sym (told_is r.command reply (data_length r) (drop 16 room)))

pub ends_write : {T K : Type 0} (answers : Answering K) (power : K → Option Bool) (disk next : K) (from left to given : List Event) (r : Result T Ended) → Asks answers disk next from left
    → IfErr r (λ ended. ended ≡ WriteFault)
    → IfErr r (λ ended. EndsSo answers power ended disk next from left to given)
ends_write answers power disk next from left to given (Ok x) asks h = tt
ends_write answers power disk next from left to given (Err ended) asks h = subst (λ (e : Ended). EndsSo answers power e disk next from left to given) (sym h) asks
