-- Bytes past those that the reader wants change nothing.
use Rattle.std.proofs.Common.{◌≡◌, List, ℕ, Result, subst}
use Rattle.die_image.specs.declared.head.ImageHead.{ImageHead}
use Rattle.die_image.specs.declared.error.ImageError.{ImageError}
use Rattle.die_image.specs.Image.{end_read, image_read, Says}
use Rattle.die_image.proofs.Heads.{fed_all, gives_from_says}
use Rattle.die_image.proofs.decoding.read_all.Goals as goal

pub returns : goal.returns
returns c =
    let whole : end_read c.feed-2.new.self ≡ image_read c.args.reader.is_old c.args.bytes.now =
    fed_all c.args.reader c.feed.new.self c.feed-2.new.self c.args.bytes.now c.split_at.result.0.now c.split_at.result.1.now c.split_at-2.result.0.now
    c.wants-wanted.result c.wants-wanted-2.result c.min.result c.min-2.result
    c.requires.fresh c.requires.empty c.wants-wanted.ensures c.min.ensures c.split_at.ensures.front c.split_at.ensures.back c.in_ok-feed.ensures.fed.1
    c.wants-wanted-2.ensures c.min-2.ensures c.split_at-2.ensures.front c.in_ok-feed-2.ensures.fed.1 in
    gives_from_says _ c.end.result _ (subst (λ (read : Result (ImageHead × List ℕ) ImageError). Says (λ image. (image.0, image.1.items)) c.end.result read) whole c.end.ensures)
