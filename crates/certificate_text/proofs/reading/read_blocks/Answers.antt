use Rattle.certificate_text.proofs.PresentationLaws.{document_sound, elements_are_accepted, trees_are_accepted}
use Rattle.certificate_text.proofs.ReadyBlocks.{tail_ready, tail_writable}
use Rattle.certificate_text.proofs.TailLines.{tail_short}
use Rattle.certificate_text.proofs.reading.read_blocks.Goals as goal

pub blocks_of-requires : goal.blocks_of-requires
blocks_of-requires c = record { few = tail_short c.args.bytes.now c.args.document.now c.in-Some.tail c.requires.read c.in-Some.is c.requires.short }

pub returns-clause-ready : goal.returns-clause-ready
returns-clause-ready c =
    let sound = document_sound c.args.bytes.now c.args.document.now c.requires.read in
    tail_ready trees_are_accepted elements_are_accepted c.args.document.now sound c.in-Some.tail.line c.in-Some.tail.from c.args.bytes.now _ c.blocks_of.result c.requires.short c.blocks_of.ensures

pub returns-clause-writable : goal.returns-clause-writable
returns-clause-writable c =
    let sound = document_sound c.args.bytes.now c.args.document.now c.requires.read in
    tail_writable trees_are_accepted elements_are_accepted c.args.document.now sound c.in-Some.tail.line c.in-Some.tail.from c.args.bytes.now _ c.blocks_of.result c.blocks_of.ensures
