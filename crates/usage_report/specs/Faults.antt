-- What a fault of a sink is to a report.
use Rattle.tp_io.specs.declared.sinks.SinkFault.{SinkFault}
use Rattle.tp_io.specs.declared.sinks.SinkFault.TheVariants as sink
use Rattle.usage_report.specs.declared.faults.ReportFault.{ReportFault}
use Rattle.usage_report.specs.declared.faults.ReportFault.TheVariants as report

abbrev pub report_fault_of : SinkFault → ReportFault
report_fault_of sink.Failed = report.Write
report_fault_of sink.Memory = report.Memory
