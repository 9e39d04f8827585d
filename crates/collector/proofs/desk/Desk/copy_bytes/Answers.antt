-- The sector is got and put; the reads come first, and change no cell.
use Rattle.std.proofs.Common.{◌≡◌, false, is_err, sym, ◌∙◌}
use Rattle.cell_die.specs.Calls.{Passed}
use Rattle.page_codec.specs.Units.{reads_of, decoded_at}
use Rattle.collector.proofs.CopiedBytes.{bytes_put, when_ok, passed_after_get, failed_after_get}
use Rattle.collector.proofs.desk.Desk.copy_bytes.Goals as goal

pub returns-in-Ok-clause-ends : goal.returns-in-Ok-clause-ends
returns-in-Ok-clause-ends g c =
    let meaning = g.C.Scheme.meaning c.args.self.now.scheme.now in
    let old = g.D.Die.state c.args.self.now.die.now in
    let mid = g.D.Die.state c.get.new.die in
    let fine : is_err c.get.result ≡ false = sym c.is_err.ensures.value ∙ c.if-is_err.false in (
      bytes_put meaning c.args.spare c.args.page c.args.place c.args.header.now c.get.new.into old mid
          (g.D.Die.state c.put_bytes.new.self.die.now) c.args.self.now.book.now c.put_bytes.new.self.book.now c.args.self.now.seq.now c.put_bytes.new.self.seq.now
          c.get.ensures.same_cells c.get.ensures.kept.shape c.requires.bytes (when_ok (c.get.new.into ≡ decoded_at meaning old c.args.place) c.get.result fine c.get.ensures.got)
          c.put_bytes.ensures.sector c.put_bytes.ensures.puts,
      c.in-Ok.ensures.gated,
      passed_after_get meaning c.args.place c.args.header.now old mid (g.D.Die.state c.put_bytes.new.self.die.now) c.requires.bytes
          (when_ok (Passed 0 (reads_of meaning c.args.place) old mid) c.get.result fine c.get.ensures.passed) c.in-Ok.ensures.passed,
    )

pub returns-in-Err-clause-ends : goal.returns-in-Err-clause-ends
returns-in-Err-clause-ends g c =
    let meaning = g.C.Scheme.meaning c.args.self.now.scheme.now in
    let old = g.D.Die.state c.args.self.now.die.now in
    let mid = g.D.Die.state c.get.new.die in
    let fine : is_err c.get.result ≡ false = sym c.is_err.ensures.value ∙ c.if-is_err.false in (
      bytes_put meaning c.args.spare c.args.page c.args.place c.args.header.now c.get.new.into old mid
          (g.D.Die.state c.put_bytes.new.self.die.now) c.args.self.now.book.now c.put_bytes.new.self.book.now c.args.self.now.seq.now c.put_bytes.new.self.seq.now
          c.get.ensures.same_cells c.get.ensures.kept.shape c.requires.bytes (when_ok (c.get.new.into ≡ decoded_at meaning old c.args.place) c.get.result fine c.get.ensures.got)
          c.put_bytes.ensures.sector c.put_bytes.ensures.puts,
      failed_after_get meaning c.args.place c.args.header.now old mid (g.D.Die.state c.put_bytes.new.self.die.now) c.requires.bytes
          (when_ok (Passed 0 (reads_of meaning c.args.place) old mid) c.get.result fine c.get.ensures.passed) c.in-Err.ensures.failed,
    )
