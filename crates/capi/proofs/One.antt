-- Each contract says what the outcome equals, and so allows one.
-- Assumes nothing.
use Rattle.basics.proofs.One.{settled}
use Rattle.state.specs.Layout.{state_size}
use Rattle.capi.specs.Calls.{written_to, ran_to, opened_to, read_of, part_of}
use Rattle.capi.specs.Packets.{opened_reader, packets_to}
use Rattle.capi.specs.Promises.{OneSize, OneOpening, OneCall, OneRunCall, OneReader, OnePacketCall, OneReading, OnePart}

pub one_size : OneSize
one_size x y = settled state_size x y

pub one-opening : OneOpening
one-opening s len x y = settled (opened_to s len) x y

pub one-call : OneCall
one-call s m o d x y = settled (written_to s m o d) x y

pub one-run-call : OneRunCall
one-run-call s m ws x y = settled (ran_to s m ws) x y

pub one_reader : OneReader
one_reader r x y = settled (opened_reader r) x y

pub one-packet-call : OnePacketCall
one-packet-call r s m piece run x y = settled (packets_to r s m piece run) x y

pub one-reading : OneReading
one-reading s o x y = settled (read_of s o) x y

pub one-part : OnePart
one-part m base format px py width x y = settled (part_of m base format px py width) x y
