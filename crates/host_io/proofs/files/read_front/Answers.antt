use Rattle.std.proofs.Common.{◌≡◌, ◌<◌, ◌-◌, ◌^◌, ◌++◌, ◌∙◌, ap, take, length, IfSome, arith}
use Rattle.std.specs.Option.{option_map}
use Rattle.host_io.proofs.Fronts.{cut_front}
use Rattle.host_io.proofs.files.read_front.Goals as goal

pub returns-in-Ok-append-clause-front : goal.returns-in-Ok-append-clause-front
returns-in-Ok-append-clause-front g c =
    let read = c.read_to_end-read.new.buf in
    let most = c.saturating_add-most.result in
    let small : length c.read_to_end-read.new.buf.items < 2 ^ 64 - 1 = omega (arith, c.read_to_end-read.new.buf.ok, c.read_to_end-read.new.buf.small) in
    let known : IfSome (option_map (take c.saturating_add-most.result) (g.F.Read.remaining c.args.reader)) (λ xs. c.read_to_end-read.new.buf.items ≡ xs) =
    rw (c.take.ensures.limit, c.take.ensures.inner, c.new-front.ensures.items) at c.in-Ok.ensures.bytes in
    let grown : c.append.new.self ≡ c.args.into.now ++ take c.saturating_add-most.result c.read_to_end-read.new.buf.items =
    c.in-Ok-append.ensures.ok ∙ ap (λ xs. c.args.into.now ++ xs) (c.deref.ensures.value ∙ c.truncate.ensures.items) in
    cut_front (g.F.Read.remaining c.args.reader) c.args.limit most c.args.into.now read.items c.append.new.self c.saturating_add-most.ensures small known grown
